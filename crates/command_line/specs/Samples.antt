-- The runs that examples of command lines name.
-- This project's own choice.
use Rattle.std.specs.Prelude.{ℕ, true, false, List, Option, Some}
use Rattle.command_line.specs.Words.{Command, run}

-- a run without `--strict`
abbrev pub plain_run : ℕ → List ℕ → List (List ℕ) → Option Command
plain_run merge_at directory scripts =
    Some (run (record { merge_at = merge_at; strict = false }) directory scripts)

-- the same with it
abbrev pub strict_run : ℕ → List ℕ → List (List ℕ) → Option Command
strict_run merge_at directory scripts =
    Some (run (record { merge_at = merge_at; strict = true }) directory scripts)
