use Rattle.std.proofs.Common.{◌<◌, ◌^◌, length, map, subst, arith}
use Rattle.std.specs.Prelude.{All}
use Rattle.std.specs.Arc.{arc_value}
use Rattle.std.proofs.lemmas.List.{take_all}
use Rattle.seg_tree.specs.Nodes.{LeafNode}
use Rattle.seg_tree.proofs.Making.{all_more}
use Rattle.seg_store.specs.Counts.{IsSmallLeaf}
use Rattle.seg_store.proofs.counts.know_leaves.Goals as goal

pub loop-leaf-preserved : goal.loop-leaf-preserved
loop-leaf-preserved c =
    all_more IsSmallLeaf arc_value c.args.leaves.now c.loop-leaf.leaf-index c.leaf-item.result c.loop-leaf-test.true c.leaf-item.is
    c.loop-leaf.invariant (
      subst (λ (l : LeafNode). l.id < 2 ^ 62) c.deref.ensures c.id.ensures.small,
      subst (λ (l : LeafNode). 0 < length l.datoms) c.deref-in-loop-leaf.ensures c.datoms.ensures.some,
      subst (λ (l : LeafNode). length l.datoms < 513) c.deref-in-loop-leaf.ensures (omega (arith, c.datoms.ensures.few)),
    )

pub returns : goal.returns
returns c =
    subst (λ l. All IsSmallLeaf (map arc_value l)) (take_all c.loop-leaf.leaf-index c.args.leaves.now c.loop-leaf-test.false)
    c.loop-leaf.invariant
