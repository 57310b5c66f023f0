use Rattle.std.proofs.Common.{◌≡◌, ◌≤◌, ◌-◌, List, length, drop}
use Rattle.std.specs.Prelude.{fold}
use Rattle.log_model.specs.Nodes.{Leaf}
use Rattle.log_model.specs.Merges.{several_over, read_leaf}
use Rattle.seg_codec.specs.Wanted.{with_held}
use Rattle.seg_codec.proofs.SeveralOver.{with_front}
use Rattle.seg_codec.proofs.leaves.add_leaves.Given as goal

-- the nodes that were added so far, and what is read behind them, are what is read from the place on
abbrev pub invariant-loop : goal.invariant-loop
invariant-loop l = record {
  within : l.end ≤ length l.bytes;
  so_far : (items : List Leaf) × (l.nodes ≡ fold (with_held l.wanted) l.fn.nodes items)
      × (with_front items (several_over (read_leaf l.format) (with_held l.wanted) l.nodes (l.count - l.counter) (drop l.end l.bytes))
      ≡ several_over (read_leaf l.format) (with_held l.wanted) l.fn.nodes l.count (drop l.at l.bytes));
}
