use Rattle.std.proofs.Common.{◌≡◌, ◌-◌, length}
use Rattle.std.specs.Option.{option_copied}
use Rattle.seg_tree.specs.Nodes.{tree_datoms}
use Rattle.seg_tree.specs.Ranks.{rank}
use Rattle.fb_index.specs.Ranges.{within}
use Rattle.fb_index.specs.Sides.{older_ahead}
use Rattle.fb_index.proofs.sides.Sides.next_older.Given as goal

abbrev pub invariant-loop-d : goal.invariant-loop-d
invariant-loop-d l =
    within (option_copied l.end) (older_ahead l.self.extent l.self.tree.now l.self.live.now l.place)
    ≡ within (option_copied l.end) (older_ahead l.self.extent l.self.tree.now l.self.live.now l.fn.from)

abbrev pub decreases-loop-d : goal.decreases-loop-d
decreases-loop-d l = length (tree_datoms l.self.tree.now) - rank l.self.tree.now l.place
