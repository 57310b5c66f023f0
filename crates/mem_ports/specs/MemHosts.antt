-- What a host in memory hands out by name.
-- This project's own choice.
use Rattle.std.specs.Prelude.{ℕ, List, [], Option, Some, option_map}
use Rattle.std.specs.Option.{option_map_or, unwrap_or}
use Rattle.std.specs.BTreeMap.{get_by_text}
use Rattle.mem_ports.specs.Calls.{no_calls}
use Rattle.mem_ports.specs.MemDisks.{Past, known_bytes, images_of, moment_of}
use Rattle.fb_ports.specs.HostSpec.{HostSpec}
use Rattle.fb_ports.specs.declared.hosts.Part.{Part}
use Rattle.fb_ports.specs.declared.hosts.Part.TheVariants.{Log, Segments}
use Rattle.mem_ports.specs.InMemory.{Supply}
use Rattle.mem_ports.specs.declared.hosts.MemHost.{MemHost}

-- the source that was added under the name and not handed out yet
abbrev pub source_at : MemHost → List ℕ → Option Supply
source_at h name = get_by_text h.sources name

-- how many calls have failed
abbrev pub host_faults : MemHost → ℕ
host_faults h = h.faults

-- the bytes of that source, and its count of faults
abbrev pub left_at : MemHost → List ℕ → Option (List ℕ)
left_at h name = option_map (λ s. s.left) (source_at h name)

abbrev pub faults_at : MemHost → List ℕ → ℕ
faults_at h name = option_map_or (λ s. s.calls.faults) (source_at h name) 0

-- the disk that was added under the directory and part and not handed out yet
abbrev pub disk_at : MemHost → List ℕ → Part → Option Past
disk_at h dir Log = get_by_text h.logs dir
disk_at h dir Segments = get_by_text h.segments dir

-- an empty disk with 64 MiB of room
abbrev pub empty_disk : Past
empty_disk = record { first = []; changes = []; room = 67108864; calls = no_calls [] }

-- the disk that is handed out: the one that was added, or an empty one
abbrev pub handed_of : Option Past → Past
handed_of added = unwrap_or added empty_disk

abbrev pub handed_at : MemHost → List ℕ → Part → Past
handed_at h dir part = handed_of (disk_at h dir part)

-- its bytes, its count of faults, its images and its moment
abbrev pub held_at : MemHost → List ℕ → Part → Option (List ℕ)
held_at h dir part = known_bytes (handed_at h dir part)

abbrev pub disk_faults_at : MemHost → List ℕ → Part → ℕ
disk_faults_at h dir part = (handed_at h dir part).calls.faults

abbrev pub images_at : MemHost → List ℕ → Part → List ℕ → Type 0
images_at h dir part = images_of (handed_at h dir part)

abbrev pub moment_at : MemHost → List ℕ → Part → ℕ
moment_at h dir part = moment_of (handed_at h dir part)

-- the host's record: a sink of any name is handed out empty
abbrev pub spec_of : MemHost → HostSpec
spec_of h =
    record {
      sources = left_at h;
      source_faults = faults_at h;
      sinks = λ _. Some [];
      sink_faults = λ _. 0;
      disks = held_at h;
      disk_faults = disk_faults_at h;
      disk_images = images_at h;
      disk_moment = moment_at h;
      faults = host_faults h;
    }
