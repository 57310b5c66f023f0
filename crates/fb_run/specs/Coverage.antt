-- What a run promises of its trees: how far they go, that the file of segments keeps them,
-- and that none is left to be made.
-- This project's own choice.
use Rattle.std.specs.Prelude.{◌≡◌, ◌⊎◌, ◌<◌, ℕ, List}
use Rattle.fb_values.specs.declared.facts.Entry.{Entry}
use Rattle.disk_model.specs.Disk.{IfKnown}
use Rattle.log_model.specs.Kept.{KeptRoot, Agrees}
use Rattle.seg_store.specs.Keeping.{FileHas, HasGreatNode}
use Rattle.fb_view.specs.SnapshotModel.{SnapshotModel}
use Rattle.fb_core.specs.Cores.{live_datoms}
use Rattle.fb_ports.specs.HostSpec.{HostSpec}
use Rattle.fb_ports.specs.declared.hosts.Part.TheVariants.{Segments}
use Rattle.fb_recover.specs.Openings.{HasCoverage, AgreesWithNone, HasFault}
use Rattle.fb_run.specs.Outside.{DiskSpec}

-- A crash leaves a file that keeps a root of this c with which the history agrees. A reopening goes
-- as far, unless the file keeps a newer such root.
abbrev pub IsCovered : {D : Type 0} → DiskSpec D → List Entry → ℕ → D → Type 0
IsCovered disks h c segments =
    (image : List ℕ) → disks.images segments image
    → (root : KeptRoot) × FileHas image root × (root.c ≡ c) × Agrees h root

-- The file of segments keeps the trees that the database was opened with,
-- unless it had a fault or the history agreed with no root of it.
abbrev pub StaysCovered : {D : Type 0} → HostSpec → DiskSpec D → List ℕ → List Entry → ℕ → D
    → Type 0
StaysCovered spec disks dir h c segments =
    IfKnown (spec.disks dir Segments)
    (λ file. HasFault file ⊎ (AgreesWithNone h file ⊎ IsCovered disks h c segments))

-- A crash leaves a file of segments that keeps trees which go as far. Where the file had a fault,
-- or the history agreed with no root of it, they may go as far as they did at the opening instead.
abbrev pub GoAsFar : {D : Type 0} → HostSpec → DiskSpec D → List ℕ → List Entry → SnapshotModel → D
    → Type 0
GoAsFar spec disks dir opening last segments =
    IfKnown (spec.disks dir Segments)
    (λ file. (HasCoverage opening last.covered file
    × (HasFault file ⊎ AgreesWithNone opening file))
    ⊎ IsCovered disks last.entries last.covered segments)

-- So few datoms are live that no merge is due,
-- unless the numbers for the nodes of trees are used up: a node had one of the last
-- in the file of segments as the host's record has it, or has one in whatever a crash leaves.
abbrev pub IsMerged : {D : Type 0} → HostSpec → DiskSpec D → List ℕ → ℕ → SnapshotModel → D → Type 0
IsMerged spec disks dir merge_at last segments =
    (live_datoms last.live < merge_at)
    ⊎ IfKnown (spec.disks dir Segments)
    (λ file. HasGreatNode file
    ⊎ ((image : List ℕ) → disks.images segments image → HasGreatNode image))
