use Rattle.std.proofs.Common.{◌<◌, ◌≤◌, length, sym, ap, ◌∙◌, arith}
use Rattle.std.specs.Prelude.{nat_eq}
use Rattle.std.specs.Arc.{arc_value}
use Rattle.std.proofs.lemmas.Bool.{eq-eqb, ne_eqb}
use Rattle.log_model.specs.Nodes.{is_among}
use Rattle.seg_tree.specs.Nodes.{LeafNode}
use Rattle.seg_codec.proofs.Reaching.{any_here, none_more, ids_all}
use Rattle.seg_codec.proofs.directories.is_listed.Goals as goal

pub loop-leaf-preserved : goal.loop-leaf-preserved
loop-leaf-preserved c =
    let there : c.loop-leaf.leaf-index < length c.deref-leaf-items.result.now = omega arith in
    let within = rw c.deref-leaf-items.ensures.value at there in
    let is = rw c.deref-leaf-items.ensures.value at c.leaf-item.is in
    let id = c.id.ensures.id ∙ ap (λ (l : LeafNode). l.id) c.deref.ensures in
    none_more arc_value (nat_eq c.args.id) c.args.leaves.now.items c.loop-leaf.leaf-index c.leaf-item.result within is c.loop-leaf.invariant
    (ne_eqb c.args.id _ (λ same. c.if-id.false (id ∙ sym same)))

pub returns-then-id : goal.returns-then-id
returns-then-id c =
    let there : c.loop-leaf.leaf-index < length c.deref-leaf-items.result.now = omega arith in
    let within = rw c.deref-leaf-items.ensures.value at there in
    let is = rw c.deref-leaf-items.ensures.value at c.leaf-item.is in
    let id = c.id.ensures.id ∙ ap (λ (l : LeafNode). l.id) c.deref.ensures in
    sym (any_here arc_value (nat_eq c.args.id) c.args.leaves.now.items c.loop-leaf.leaf-index c.leaf-item.result within is
    (eq-eqb c.args.id _ (sym c.if-id.true ∙ id)))

pub returns : goal.returns
returns c =
    let past : length c.deref-leaf-items.result.now ≤ c.loop-leaf.leaf-index = omega arith in
    sym (ap (λ l. is_among l c.args.id)
    (sym (ids_all arc_value c.args.leaves.now.items c.loop-leaf.leaf-index (rw c.deref-leaf-items.ensures.value at past)))
    ∙ c.loop-leaf.invariant)
