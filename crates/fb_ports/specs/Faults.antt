-- How an object's count of faults moves in a call, handed on, and how a host's does.
-- This project's own choice.
use Rattle.std.specs.Prelude.{◌≡◌, ℕ, MatchResult, Result}
use Rattle.fb_ports.specs.declared.fails.OpenFail.{OpenFail}
use Rattle.fb_ports.specs.declared.fails.OpenFail.TheVariants.{Failed, Memory}
pub use Rattle.io_faults.specs.Faults.{Rose, raised, Counts}

-- why a host could not open: only its own fault is counted
abbrev pub CountsFailed : OpenFail → ℕ → ℕ → Type 0
CountsFailed Failed old new = Rose old new
CountsFailed Memory old new = new ≡ old

-- the count of a call that opens something, for which running out of memory is no fault
abbrev pub CountsOpening : {T : Type 0} → Result T OpenFail → ℕ → ℕ → Type 0
CountsOpening r old new = MatchResult r (λ _. new ≡ old) (λ e. CountsFailed e old new)
