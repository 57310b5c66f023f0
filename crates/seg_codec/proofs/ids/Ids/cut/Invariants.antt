use Rattle.std.proofs.Common.{◌≡◌, ◌≤◌, ℕ, length, take}
use Rattle.seg_codec.proofs.ids.Ids.cut.Given as goal

-- a beginning of the ids that is not too short
abbrev pub invariant-loop-self : goal.invariant-loop-self
invariant-loop-self l = (n : ℕ) × (l.self ≡ take n l.fn.self) × (l.len ≤ n)

abbrev pub decreases-loop-self : goal.decreases-loop-self
decreases-loop-self l = length l.self
