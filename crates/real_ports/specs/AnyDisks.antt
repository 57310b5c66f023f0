-- A real disk, or one in memory in its place: what its contract says of it.
-- This project's own choice.
use Rattle.std.specs.Prelude.{ℕ, Bool, List, [], codes, if◌then◌else◌, Option, None, Some, ⊤}
use Rattle.std.specs.Str.{bytes_eq}
use Rattle.mem_ports.specs.Calls.{no_calls}
use Rattle.mem_ports.specs.MemDisks.{known_bytes, moment_of, images_of, images_since_of}
use Rattle.fb_ports.specs.declared.hosts.Part.{Part}
use Rattle.real_ports.specs.declared.disks.AnyDisk.{AnyDisk}
use Rattle.real_ports.specs.declared.disks.AnyDisk.TheVariants.{File, InMemory}

abbrev pub faults_of : AnyDisk → ℕ
faults_of (File faults) = faults
faults_of (InMemory d) = d.calls.faults

-- of a file no bytes are known, and a crash may leave anything of it
abbrev pub bytes_of : AnyDisk → Option (List ℕ)
bytes_of (File faults) = None
bytes_of (InMemory d) = known_bytes d

abbrev pub may_leave : AnyDisk → List ℕ → Type 0
may_leave (File faults) image = ⊤
may_leave (InMemory d) image = images_of d image

abbrev pub moment_at : AnyDisk → ℕ
moment_at (File faults) = 0
moment_at (InMemory d) = moment_of d

abbrev pub may_have_left : AnyDisk → ℕ → List ℕ → Type 0
may_have_left (File faults) t image = ⊤
may_have_left (InMemory d) t image = images_since_of d t image

-- whether the directory is the one in memory
abbrev pub is_memory : List ℕ → Bool
is_memory dir = bytes_eq dir (codes ":memory:")

-- what the real host's record has of a directory: the one in memory is empty
abbrev pub held_in : List ℕ → Part → Option (List ℕ)
held_in dir part = if is_memory dir then Some [] else None

-- what it hands out: there an empty disk with 128 MiB of room, and a file elsewhere
abbrev pub opened_in : List ℕ → AnyDisk
opened_in dir =
    if is_memory dir
    then InMemory (record { first = []; changes = []; room = 134217728; calls = no_calls [] })
    else File 0

-- the images that the host's record has: those of the disk that it hands out
abbrev pub may_leave_in : List ℕ → Part → List ℕ → Type 0
may_leave_in dir part image = may_leave (opened_in dir) image
