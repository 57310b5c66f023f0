use Rattle.std.proofs.Common.{◌≡◌, ◌<◌, ◌+◌, ℕ, get_or, length, take}
use Rattle.fb_model.specs.History.{said}
use Rattle.seg_agree.proofs.totals.totals_of.Given as goal

abbrev pub invariant-loop-t : goal.invariant-loop-t
invariant-loop-t l = record {
  total : l.total ≡ length (said (take l.t l.entries));
  long : length l.totals.items ≡ l.t;
  each : (k : ℕ) → k < l.t → get_or l.totals.items k 0 ≡ length (said (take (k + 1) l.entries));
}
