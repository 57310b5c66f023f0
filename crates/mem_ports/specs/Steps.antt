-- How a record lies in memory: its entries, and the bytes that they wrote, one after another.
-- This project's own choice.
use Rattle.std.specs.Prelude.{◌+◌, ℕ, List, [], ◌∷◌, take, drop, max}
use Rattle.disk_model.specs.Record.{Change, wrote, cut_to, synced}
use Rattle.mem_ports.specs.declared.disks.record.Step.{Step}
use Rattle.mem_ports.specs.declared.disks.record.Step.TheVariants.{Wrote, Cut, Synced}

abbrev pub changes_of : List Step → List ℕ → List Change
changes_of [] bytes = []
changes_of (Wrote at len ∷ steps) bytes =
    wrote at (take len bytes) ∷ changes_of steps (drop len bytes)
changes_of (Cut len ∷ steps) bytes = cut_to len ∷ changes_of steps bytes
changes_of (Synced ∷ steps) bytes = synced ∷ changes_of steps bytes

abbrev pub bytes_written : List Step → ℕ
bytes_written [] = 0
bytes_written (Wrote at len ∷ steps) = len + bytes_written steps
bytes_written (Cut len ∷ steps) = bytes_written steps
bytes_written (Synced ∷ steps) = bytes_written steps

-- where the write that reaches furthest ends
abbrev pub furthest_end : List Step → ℕ
furthest_end [] = 0
furthest_end (Wrote at len ∷ steps) = max (at + len) (furthest_end steps)
furthest_end (Cut len ∷ steps) = furthest_end steps
furthest_end (Synced ∷ steps) = furthest_end steps
