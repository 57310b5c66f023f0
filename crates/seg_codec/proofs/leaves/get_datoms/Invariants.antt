use Rattle.std.proofs.Common.{◌≡◌, ◌≤◌, ◌-◌, length, drop}
use Rattle.log_model.specs.Nodes.{Nodes}
use Rattle.log_model.specs.Merges.{several_over, read_dated}
use Rattle.seg_codec.proofs.SeveralOver.{with_front}
use Rattle.seg_codec.proofs.leaves.get_datoms.Given as goal

-- the datoms so far, and what is read behind them, are what is read from the place on
abbrev pub invariant-loop : goal.invariant-loop
invariant-loop l = record {
  within : l.end ≤ length l.bytes;
  len : length l.datoms.items ≡ l.counter;
  so_far : (nodes : Nodes)
      → with_front l.datoms.items (several_over (λ (_ : Nodes) behind. read_dated l.format behind) (λ s _. s) nodes (l.count - l.counter)
      (drop l.end l.bytes))
      ≡ several_over (λ (_ : Nodes) behind. read_dated l.format behind) (λ s _. s) nodes l.count (drop l.at l.bytes);
}
