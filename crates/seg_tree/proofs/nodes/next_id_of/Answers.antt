use Rattle.std.proofs.Common.{◌≡◌, ◌<◌, ◌∷◌, [], length, ap, ◌∙◌, arith}
use Rattle.std.specs.Arc.{arc_value}
use Rattle.seg_tree.specs.Nodes.{LeafNode}
use Rattle.seg_tree.proofs.Making.{next_above_leaf}
use Rattle.seg_tree.proofs.nodes.next_id_of.Goals as goal

pub loop-leaf-preserved : goal.loop-leaf-preserved
loop-leaf-preserved c =
    let there : c.loop-leaf.leaf-index < length c.deref-leaf-items.result.now = omega arith in
    let within = rw c.deref-leaf-items.ensures.value at there in
    let is = rw c.deref-leaf-items.ensures.value at c.leaf-item.is in
    let more = next_above_leaf arc_value c.args.leaves.now.items c.loop-leaf.leaf-index c.leaf-item.result (c.args.id ∷ []) within is in
    let own : c.id.result ≡ (arc_value c.leaf-item.result).id = c.id.ensures.id ∙ ap (λ (l : LeafNode). l.id) c.deref.ensures in
    record {
      is = omega (arith, more, own, c.max-next.ensures, c.loop-leaf.invariant.is);
      small = omega (arith, own, c.id.ensures.id, c.id.ensures.small, c.max-next.ensures, c.loop-leaf.invariant.small);
    }
