use Rattle.std.proofs.Common.{map, subst}
use Rattle.std.specs.Arc.{arc_value}
use Rattle.seg_tree.specs.Chunks.{BeginsWith}
use Rattle.seg_tree.specs.Nodes.{LeafNode}
use Rattle.fact_trees.proofs.Walking.{first_at, read_at}
use Rattle.fact_trees.proofs.facts.first_from.Goals as goal

pub returns-then-place-leaves : goal.returns-then-place-leaves
returns-then-place-leaves c =
    let leaves = c.args.leaves.now in
    let leaf = c.index-leaves-place.result in
    let first = c.first.result.now in
    first_at (map arc_value leaves) c.args.place (arc_value leaf) first
    (read_at arc_value leaves c.args.place leaf c.if-place-leaves.true c.index-leaves-place.is)
    (subst (λ (l : LeafNode). BeginsWith l.datoms first) c.deref.ensures c.first.ensures)
