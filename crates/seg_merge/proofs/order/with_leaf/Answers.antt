use Rattle.std.proofs.Common.{◌≡◌, ◌++◌, ◌∷◌, [], List, length, sym, ap, ◌∙◌, subst}
use Rattle.std.specs.Arc.{arc_value}
use Rattle.std.proofs.lemmas.Bool.{eqb-true}
use Rattle.std.proofs.lemmas.Result.{IfOk-weaker}
use Rattle.fb_values.specs.declared.facts.Datom.{Datom}
use Rattle.fb_values.specs.Rising.{IsRising}
use Rattle.live_index.specs.Growth.{HasNoTwins}
use Rattle.seg_tree.specs.Nodes.{LeafNode}
use Rattle.seg_merge.specs.Merged.{AreHeld}
use Rattle.seg_merge.specs.Plans.{Planned, AddsLeaf}
use Rattle.seg_merge.proofs.Lists.{none_of_zero}
use Rattle.seg_merge.proofs.Ranges.{adds_kept}
use Rattle.seg_merge.proofs.order.with_leaf.Goals as goal

pub is_whole-requires-clause-rises : goal.is_whole-requires-clause-rises
is_whole-requires-clause-rises c =
    subst (λ (l : LeafNode). IsRising c.args.order l.datoms) (sym c.deref.ensures) c.requires.leaf_rises

pub is_whole-requires-clause-known : goal.is_whole-requires-clause-known
is_whole-requires-clause-known c = λ known.
    subst (λ (l : LeafNode). AreHeld c.args.covers.now c.args.order l.datoms) (sym c.deref.ensures) (c.requires.known known)

pub returns-then-is_whole : goal.returns-then-is_whole
returns-then-is_whole c =
    let order = c.args.order in
    let coverage = c.args.covers.now in
    let added = c.args.added.now in
    let plan = c.args.plan in
    let leaf = arc_value c.args.leaf.now in
    let zero : length added ≡ 0 = eqb-true (length added) 0 (sym c.is_empty.ensures ∙ c.if-is_empty.true) in
    let all = subst (λ (l : LeafNode). AreHeld coverage order l.datoms) c.deref.ensures (c.is_whole.ensures.held c.if-is_whole.true) in
    let new : Planned = record { datoms = plan.datoms ++ leaf.datoms; kept = plan.kept ++ leaf ∷ [] } in
    let adds =
    subst (λ (ds : List Datom). AddsLeaf order coverage leaf ds plan new) (sym (none_of_zero added zero))
    (adds_kept order coverage leaf plan c.requires.leaf_rises all) in
    IfOk-weaker c.keep.result (λ p. p ≡ new) (AddsLeaf order coverage leaf added plan)
    (λ p is. subst (AddsLeaf order coverage leaf added plan) (sym is) adds) c.keep.ensures

pub union-requires-clause-single : goal.union-requires-clause-single
union-requires-clause-single c =
    subst (λ (ds : List Datom). HasNoTwins (ds ++ c.args.added.now))
    (sym (c.datoms.ensures.datoms ∙ ap (λ (l : LeafNode). l.datoms) c.deref-2.ensures)) c.requires.single
