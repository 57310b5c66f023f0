-- The command of the definitions that the program's own command is.
-- This project's own choice.
use Rattle.std.specs.Prelude.{◌≡◌, ◌≢◌, ◌≤◌, ℕ, true, List, map}
use Rattle.std.specs.Borrow.{Bor}
use Rattle.command_line.specs.declared.commands.Run.{Run}
use Rattle.command_line.specs.declared.commands.Request.{Request}
use Rattle.command_line.specs.declared.commands.Request.TheVariants.{Run as Runs, Check as Checks}
use Rattle.command_line.specs.declared.commands.Backup.{Backup}
use Rattle.command_line.specs.declared.commands.Request.TheVariants.{Load as Loads}
use Rattle.command_line.specs.declared.commands.Request.TheVariants.{Backup as Backups}
use Rattle.command_line.specs.Words.{Command, run, check, load, backup, are_scripts}

-- the texts after references
abbrev pub names_in : List (Bor (List ℕ)) → List (List ℕ)
names_in = map (λ s. s.now)

abbrev pub run_by : Run → Command
run_by r = run r.options r.directory.now (names_in r.scripts.items)

abbrev pub backup_by : Backup → Command
backup_by b = backup b.from.now b.to.now

abbrev pub command_by : Request → Command
command_by (Runs r) = run_by r
command_by (Checks directory) = check directory.now
command_by (Loads count) = load count
command_by (Backups b) = backup_by b

-- the scripts of a run may run together, and merges become due; a directory is no copy of itself
abbrev pub CanRun : Request → Type 0
CanRun (Runs r) = (are_scripts (names_in r.scripts.items) ≡ true) × (1 ≤ r.options.merge_at)
CanRun (Checks directory) = Unit {0}
CanRun (Loads count) = Unit {0}
CanRun (Backups b) = b.from.now ≢ b.to.now
