-- What a call for one source, sink or disk leaves of a host's record as it was.
-- This project's own choice.
use Rattle.std.specs.Prelude.{◌≡◌, ◌≢◌, ◌↔◌, ℕ, List}
use Rattle.fb_ports.specs.declared.hosts.Part.{Part}
use Rattle.fb_ports.specs.HostSpec.{HostSpec}

-- what the record has of every name is as it was
abbrev pub Same : {A : Type 0} → (List ℕ → A) → (List ℕ → A) → Type 0
Same old new = (name : List ℕ) → new name ≡ old name

-- what the record has of every other name is as it was
abbrev pub SameBut : {A : Type 0} → List ℕ → (List ℕ → A) → (List ℕ → A) → Type 0
SameBut name old new = (other : List ℕ) → other ≢ name → new other ≡ old other

-- what the record has of every part of every directory is as it was
abbrev pub SameParts : {A : Type 0} → (List ℕ → Part → A) → (List ℕ → Part → A) → Type 0
SameParts old new = (dir : List ℕ) (part : Part) → new dir part ≡ old dir part

-- what the record has of every other part is as it was, and of the same part of every other directory
abbrev pub SameButPart : {A : Type 0} → List ℕ → Part → (List ℕ → Part → A) → (List ℕ → Part → A)
    → Type 0
SameButPart dir part old new =
    (other : List ℕ) (its : Part) → (other ≡ dir → its ≡ part → ⊥) → new other its ≡ old other its

-- a crash may leave the same images
abbrev pub Alike : (List ℕ → Type 0) → (List ℕ → Type 0) → Type 0
Alike old new = (image : List ℕ) → new image ↔ old image

-- the images of every part of every directory are as they were
abbrev pub SameImages : (List ℕ → Part → List ℕ → Type 0) → (List ℕ → Part → List ℕ → Type 0)
    → Type 0
SameImages old new = (dir : List ℕ) (part : Part) → Alike (old dir part) (new dir part)

-- the images of every other part are as they were, and so are those of the same part of
-- every other directory
abbrev pub SameImagesBut : List ℕ → Part → (List ℕ → Part → List ℕ → Type 0)
    → (List ℕ → Part → List ℕ → Type 0) → Type 0
SameImagesBut dir part old new =
    (other : List ℕ) (its : Part) → (other ≡ dir → its ≡ part → ⊥)
    → Alike (old other its) (new other its)

-- ---- what a call leaves as it was, other than the host's own count of faults

-- Opening a source leaves the record as it was, but for what it has of that source.
pub record StaysButSource (name : List ℕ) (old new : HostSpec) : Type 0 where
  pub sources : SameBut name old.sources new.sources
  pub source_faults : SameBut name old.source_faults new.source_faults
  pub sinks : Same old.sinks new.sinks
  pub sink_faults : Same old.sink_faults new.sink_faults
  pub disks : SameParts old.disks new.disks
  pub disk_faults : SameParts old.disk_faults new.disk_faults
  pub disk_images : SameImages old.disk_images new.disk_images
  pub disk_moment : SameParts old.disk_moment new.disk_moment

-- Opening a sink leaves the record as it was, but for what it has of that sink.
pub record StaysButSink (name : List ℕ) (old new : HostSpec) : Type 0 where
  pub sources : Same old.sources new.sources
  pub source_faults : Same old.source_faults new.source_faults
  pub sinks : SameBut name old.sinks new.sinks
  pub sink_faults : SameBut name old.sink_faults new.sink_faults
  pub disks : SameParts old.disks new.disks
  pub disk_faults : SameParts old.disk_faults new.disk_faults
  pub disk_images : SameImages old.disk_images new.disk_images
  pub disk_moment : SameParts old.disk_moment new.disk_moment

-- Opening a part of a directory leaves the record as it was, but for what it has of that part.
pub record StaysButDisk (dir : List ℕ) (part : Part) (old new : HostSpec) : Type 0 where
  pub sources : Same old.sources new.sources
  pub source_faults : Same old.source_faults new.source_faults
  pub sinks : Same old.sinks new.sinks
  pub sink_faults : Same old.sink_faults new.sink_faults
  pub disks : SameButPart dir part old.disks new.disks
  pub disk_faults : SameButPart dir part old.disk_faults new.disk_faults
  pub disk_images : SameImagesBut dir part old.disk_images new.disk_images
  pub disk_moment : SameButPart dir part old.disk_moment new.disk_moment
