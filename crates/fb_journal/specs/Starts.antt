-- What a start answers.
-- This project's own choice.
use Rattle.std.specs.Prelude.{◌≡◌, ℕ, ⊤}
use Rattle.io_faults.specs.Faults.{Rose}
use Rattle.fb_journal.specs.declared.starts.StartFault.{StartFault}
use Rattle.fb_journal.specs.declared.starts.StartFault.TheVariants.{Disk, BadLog, Memory}

-- a fault of the disk raised its count, and nothing else did
abbrev pub CountsStart : StartFault → ℕ → ℕ → Type 0
CountsStart Disk old new = Rose old new
CountsStart (BadLog nth at) old new = new ≡ old
CountsStart Memory old new = new ≡ old

-- the fault is not one of the file
abbrev pub IsNotBad : StartFault → Type 0
IsNotBad (BadLog nth at) = ⊥
IsNotBad Disk = ⊤
IsNotBad Memory = ⊤
