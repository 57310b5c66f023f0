use Rattle.std.proofs.Common.{◌≡◌, ◌++◌, ◌≤◌, ◌-◌, drop, length}
use Rattle.fb_search.specs.Places.{place_of}
use Rattle.seg_tree.specs.Nodes.{tree_datoms}
use Rattle.seg_tree.specs.Ranks.{rank}
use Rattle.fb_index.specs.Ranges.{led_to}
use Rattle.fb_index.proofs.ranges.push_older.Given as goal

abbrev pub invariant-loop-d : goal.invariant-loop-d
invariant-loop-d l = record {
  from : place_of l.probe (tree_datoms l.tree) ≤ rank l.tree l.place;
  rest : l.found.items ++ led_to l.probe (drop (rank l.tree l.place) (tree_datoms l.tree))
      ≡ l.initial.found.items ++ led_to l.probe (tree_datoms l.tree);
}

abbrev pub decreases-loop-d : goal.decreases-loop-d
decreases-loop-d l = length (tree_datoms l.tree) - rank l.tree l.place
