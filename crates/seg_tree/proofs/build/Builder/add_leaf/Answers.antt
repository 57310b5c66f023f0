use Rattle.std.proofs.Common.{◌≡◌, ◌+◌, ◌<◌, ◌^◌, ◌++◌, ◌∷◌, [], List, map, subst, sym, ap, ◌∙◌, arith}
use Rattle.std.specs.Prelude.{IfOk}
use Rattle.std.specs.Arc.{arc_value}
use Rattle.std.proofs.lemmas.List.{map-append}
use Rattle.fb_values.specs.declared.facts.Datom.{Datom}
use Rattle.seg_tree.specs.Nodes.{LeafNode}
use Rattle.seg_tree.specs.Built.{Build, build_of, IsGrowing}
use Rattle.seg_tree.proofs.Growing.{growing_new, build_new}
use Rattle.seg_tree.proofs.build.Builder.add_leaf.Goals as goal

pub settled-requires-clause-growing : goal.settled-requires-clause-growing
settled-requires-clause-growing c =
    let b = c.self.inside in
    let ds = map arc_value b.directories.items in
    let ls = map arc_value b.leaves.items in
    let own : LeafNode = record { id = b.next; datoms = c.args.datoms.items } in
    let small : b.next < 2 ^ 62 = omega (arith, c.if-next-ge-IDS.false) in
    let pushed : map arc_value c.push.new.self.items ≡ ls ++ own ∷ [] =
    ap (map arc_value) c.in_ok-push.ensures.items
    ∙ map-append arc_value b.leaves.items (c.in_ok-new.field-0 ∷ [])
    ∙ ap (λ (l : LeafNode). ls ++ l ∷ [])
    (c.in_ok-new.ensures.ok ∙ c.of.ensures ∙ ap (λ (xs : List Datom). record { id = b.next; datoms = xs }) c.shrink_to_fit.ensures.items) in
    subst (λ (all : List LeafNode). IsGrowing b.first (b.next + 1) ds all) (sym pushed)
    (growing_new b.first b.next ds ls c.args.datoms.items small c.self.invariant.0)

pub returns : goal.returns
returns c =
    let b = c.self.inside in
    let ds = map arc_value b.directories.items in
    let ls = map arc_value b.leaves.items in
    let own : LeafNode = record { id = b.next; datoms = c.args.datoms.items } in
    let pushed : map arc_value c.push.new.self.items ≡ ls ++ own ∷ [] =
    ap (map arc_value) c.in_ok-push.ensures.items
    ∙ map-append arc_value b.leaves.items (c.in_ok-new.field-0 ∷ [])
    ∙ ap (λ (l : LeafNode). ls ++ l ∷ [])
    (c.in_ok-new.ensures.ok ∙ c.of.ensures ∙ ap (λ (xs : List Datom). record { id = b.next; datoms = xs }) c.shrink_to_fit.ensures.items) in
    let same =
    ap (λ (all : List LeafNode). build_of b.first ds all) pushed
    ∙ build_new b.first b.next ds ls c.args.datoms.items c.self.invariant.0.behind
    ∙ ap (λ (s : Build). record s { datoms = s.datoms ++ c.args.datoms.items }) c.self.view_is in
    subst (λ (s : Build). IfOk c.settled.result (λ build. build ≡ s)) same c.settled.ensures
