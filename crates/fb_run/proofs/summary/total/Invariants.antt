use Rattle.std.proofs.Common.{◌≡◌, ◌*◌, take, pos, neg_ℤ, ◌≤ℤ◌}
use Rattle.fb_run.specs.Summary.{total}
use Rattle.fb_run.proofs.summary.total.Given as goal

-- the sum so far, and its bounds
abbrev pub invariant-loop-datom : goal.invariant-loop-datom
invariant-loop-datom l =
    (l.sum ≡ total (take l.datom-index l.numbers)) × (neg_ℤ (pos (9223372036854775808 * l.datom-index)) ≤ℤ l.sum)
    × (l.sum ≤ℤ pos (9223372036854775808 * l.datom-index))
