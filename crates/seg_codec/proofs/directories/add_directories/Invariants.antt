use Rattle.std.proofs.Common.{◌≡◌, ◌≤◌, ◌-◌, List, length, drop}
use Rattle.std.specs.Prelude.{fold}
use Rattle.log_model.specs.Nodes.{Directory, with_directory}
use Rattle.log_model.specs.Merges.{several_over, read_directory}
use Rattle.seg_codec.proofs.SeveralOver.{with_front}
use Rattle.seg_codec.proofs.directories.add_directories.Given as goal

-- the nodes that were added so far, and what is read behind them, are what is read from the place on
abbrev pub invariant-loop : goal.invariant-loop
invariant-loop l = record {
  within : l.end ≤ length l.bytes;
  so_far : (items : List Directory) × (l.nodes ≡ fold with_directory l.fn.nodes items)
      × (with_front items (several_over read_directory with_directory l.nodes (l.count - l.counter) (drop l.end l.bytes))
      ≡ several_over read_directory with_directory l.fn.nodes l.count (drop l.at l.bytes));
}
