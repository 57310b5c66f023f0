use Rattle.std.proofs.Common.{◌<◌, ◌≤◌, length, map, sym, ap, ◌∙◌, arith}
use Rattle.std.specs.List.{list_all}
use Rattle.std.specs.Arc.{arc_value}
use Rattle.std.proofs.lemmas.List.{take_all}
use Rattle.seg_tree.specs.Nodes.{LeafNode}
use Rattle.seg_codec.specs.Wanted.{is_wanted}
use Rattle.seg_codec.proofs.Wholes.{all_more_wanted, one_unwanted}
use Rattle.seg_codec.proofs.wanted.Wanted.has_each.Goals as goal

pub loop-leaf-preserved : goal.loop-leaf-preserved
loop-leaf-preserved c =
    let there : c.loop-leaf.leaf-index < length c.deref-leaf-items.result.now = omega arith in
    let within = rw c.deref-leaf-items.ensures.value at there in
    let is = rw c.deref-leaf-items.ensures.value at c.leaf-item.is in
    let id = c.id.ensures.id ∙ ap (λ (x : LeafNode). x.id) c.deref.ensures in
    all_more_wanted arc_value c.args.leaves.now.items c.loop-leaf.leaf-index c.leaf-item.result within is
    (λ (leaf : LeafNode). is_wanted c.args.self.now leaf.id) c.loop-leaf.invariant
    (ap (is_wanted c.args.self.now) (sym id) ∙ sym c.has.ensures ∙ c.if-not-has.false)

pub returns-then-not-has : goal.returns-then-not-has
returns-then-not-has c =
    let there : c.loop-leaf.leaf-index < length c.deref-leaf-items.result.now = omega arith in
    let within = rw c.deref-leaf-items.ensures.value at there in
    let is = rw c.deref-leaf-items.ensures.value at c.leaf-item.is in
    let id = c.id.ensures.id ∙ ap (λ (x : LeafNode). x.id) c.deref.ensures in
    sym (one_unwanted arc_value c.args.leaves.now.items c.loop-leaf.leaf-index c.leaf-item.result within is
    (λ (leaf : LeafNode). is_wanted c.args.self.now leaf.id) c.loop-leaf.invariant
    (ap (is_wanted c.args.self.now) (sym id) ∙ sym c.has.ensures ∙ c.if-not-has.true))

pub returns : goal.returns
returns c =
    let past : length c.deref-leaf-items.result.now ≤ c.loop-leaf.leaf-index = omega arith in
    sym (ap (λ l. list_all (λ (leaf : LeafNode). is_wanted c.args.self.now leaf.id) (map arc_value l))
    (sym (take_all c.loop-leaf.leaf-index c.args.leaves.now.items (rw c.deref-leaf-items.ensures.value at past)))
    ∙ c.loop-leaf.invariant)
