use Rattle.std.proofs.Common.{◌∙◌, ap, sym, length, map, arith}
use Rattle.std.specs.Arc.{arc_value}
use Rattle.std.proofs.lemmas.List.{length-map}
use Rattle.seg_tree.specs.Nodes.{LeafNode, leaf_datoms}
use Rattle.seg_agree.proofs.Walking.{leaves_step, none_left}
use Rattle.seg_agree.proofs.walks.len_of.Goals as goal

pub loop-leaf-init : goal.loop-leaf-init
loop-leaf-init c =
    let all = ap (λ l. length (leaf_datoms l)) c.leaves-leaf-items.ensures.leaves in
    record { rest = omega (arith, all); small = omega arith }

pub overflow_add-len : goal.overflow_add-len
overflow_add-len c =
    let many = sym (length-map c.leaves-leaf-items.result.now arc_value) ∙ ap length c.leaves-leaf-items.ensures.leaves in
    let own = ap length c.datoms.ensures.datoms in
    omega (arith, c.loop-leaf.invariant.small, many, own, c.leaves-leaf-items.ensures.few, c.datoms.ensures.few, c.loop-leaf-test.true)

pub loop-leaf-preserved : goal.loop-leaf-preserved
loop-leaf-preserved c =
    let step = leaves_step arc_value c.leaves-leaf-items.result.now c.loop-leaf.leaf-index c.leaf-item.result
    c.loop-leaf-test.true c.leaf-item.is in
    let own = ap length c.datoms.ensures.datoms in
    let node = ap (λ (l : LeafNode). length l.datoms) c.deref.ensures in
    record {
      rest = omega (arith, c.loop-leaf.invariant.rest, step, own, node);
      small = omega (arith, c.loop-leaf.invariant.small, own, c.datoms.ensures.few);
    }

pub returns : goal.returns
returns c =
    let nothing = ap (λ l. length (leaf_datoms (map arc_value l)))
    (none_left c.leaves-leaf-items.result.now c.loop-leaf.leaf-index c.loop-leaf-test.false) in
    omega (arith, c.loop-leaf.invariant.rest, nothing)
