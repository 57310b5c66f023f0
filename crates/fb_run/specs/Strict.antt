-- Under which guard a command's transactions are: the one that was handed in, with `--strict` alone.
-- This project's own choice.
use Rattle.std.specs.Prelude.{Bool, Option, None, if◌then◌else◌}
use Rattle.tx_model.specs.Step.{Guard}
use Rattle.command_line.specs.Words.{Command, is_strict}

-- the guard where it counts, and else none
abbrev pub guarded : Bool → Guard → Guard
guarded strict guard h changes = if strict then guard h changes else None

-- the guard of the command
abbrev pub under : {G : Type 0} → Option Command → (G → Guard) → G → Guard
under command bars guard = guarded (is_strict command) (bars guard)
