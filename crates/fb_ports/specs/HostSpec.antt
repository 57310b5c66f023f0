-- One record of all that a host may hand out, and of its own faults.
-- This project's own choice.
use Rattle.std.specs.Prelude.{ℕ, List, Option}
use Rattle.fb_ports.specs.declared.hosts.Part.{Part}

pub record HostSpec : Type 1 where
  -- by name, the bytes and the count of faults of a source, and of a sink
  pub sources : List ℕ → Option (List ℕ)
  pub source_faults : List ℕ → ℕ
  pub sinks : List ℕ → Option (List ℕ)
  pub sink_faults : List ℕ → ℕ
  -- by directory and part, the bytes and the count of faults of a disk
  pub disks : List ℕ → Part → Option (List ℕ)
  pub disk_faults : List ℕ → Part → ℕ
  -- by directory and part, the images that a crash may leave as a disk is handed out, and its moment then
  pub disk_images : List ℕ → Part → List ℕ → Type 0
  pub disk_moment : List ℕ → Part → ℕ
  -- how many calls have failed; at 2^64 - 1 it stays
  pub faults : ℕ
