-- How the count of a source's faults moves where nothing more was heard.
-- This project's own choice.
use Rattle.std.specs.Prelude.{◌≡◌, ℕ}
use Rattle.io_faults.specs.Faults.{Rose}
use Rattle.live_lines.specs.declared.heard.ListenError.{ListenError}
use Rattle.live_lines.specs.declared.heard.ListenError.TheVariants.{Fault, Memory}

abbrev pub CountsStop : ListenError → ℕ → ℕ → Type 0
CountsStop Fault old new = Rose old new
CountsStop Memory old new = new ≡ old
