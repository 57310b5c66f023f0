use Rattle.std.proofs.Common.{◌≡◌, ◌≤◌, ◌-◌, ℕ, List, length, drop}
use Rattle.std.specs.Prelude.{fold}
use Rattle.log_model.specs.Fields.{that_fits, read_u64}
use Rattle.log_model.specs.Nodes.{is_directory_id, reaching}
use Rattle.log_model.specs.Merges.{several_over}
use Rattle.seg_codec.proofs.SeveralOver.{with_front}
use Rattle.seg_codec.proofs.roots.get_ids.Given as goal

-- the ids so far, and what is read behind them, are what is read from the place on
abbrev pub invariant-loop : goal.invariant-loop
invariant-loop l = record {
  within : l.end ≤ length l.bytes;
  reached : l.reached ≡ fold (reaching l.nodes) l.fn.reached l.ids.items;
  so_far : with_front l.ids.items (several_over (λ (before : List ℕ) behind. that_fits (is_directory_id l.nodes before) read_u64 behind)
      (reaching l.nodes) l.reached (l.count - l.counter) (drop l.end l.bytes))
      ≡ several_over (λ (before : List ℕ) behind. that_fits (is_directory_id l.nodes before) read_u64 behind)
      (reaching l.nodes) l.fn.reached l.count (drop l.at l.bytes);
}
