use Rattle.std.proofs.Common.{◌-◌, drop, length}
use Rattle.seg_tree.specs.Nodes.{tree_datoms}
use Rattle.seg_tree.specs.Ranks.{rank}
use Rattle.seg_agree.specs.Indexes.{IsPartOf, past}
use Rattle.seg_agree.proofs.index.Index.has_all.Given as goal

abbrev pub invariant-loop-d : goal.invariant-loop-d
invariant-loop-d l =
    IsPartOf (past l.self) l.self.order (drop (rank l.tree l.place) (tree_datoms l.tree))
    → IsPartOf (past l.self) l.self.order (tree_datoms l.tree)

abbrev pub decreases-loop-d : goal.decreases-loop-d
decreases-loop-d l = length (tree_datoms l.tree) - rank l.tree l.place
