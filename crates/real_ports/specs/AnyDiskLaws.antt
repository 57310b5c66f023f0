-- The laws of disks, proved for a file or a disk in memory in its place: they define nothing.
-- This project's own choice.
use Rattle.std.specs.Prelude.{◌≤◌, ℕ, List}
use Rattle.disk_model.specs.Disk.{IfKnown}
use Rattle.disk_model.proofs.Records.{left_since-now, left_now, leaves_told}
use Rattle.real_ports.specs.AnyDisks.{bytes_of, may_leave, moment_at, may_have_left}
use Rattle.real_ports.specs.declared.disks.AnyDisk.{AnyDisk}
use Rattle.real_ports.specs.declared.disks.AnyDisk.TheVariants.{File, InMemory}

pub known_is_left : (d : AnyDisk) → IfKnown (bytes_of d) (may_leave d)
known_is_left (File faults) = λ file told. tt
known_is_left (InMemory d) = leaves_told d.changes d.first

pub left_at_moment : (d : AnyDisk) (t : ℕ) (image : List ℕ) → t ≤ moment_at d → may_leave d image
    → may_have_left d t image
left_at_moment (File faults) t image le left = tt
left_at_moment (InMemory d) t image le left = left_since-now d.first d.changes t image le left

pub left_no_later : (d : AnyDisk) (image : List ℕ) → may_have_left d (moment_at d) image
    → may_leave d image
left_no_later (File faults) image left = tt
left_no_later (InMemory d) image left = left_now d.first d.changes image left
