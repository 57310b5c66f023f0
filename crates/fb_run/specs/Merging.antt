-- The trees of a run while it runs: what its worker has of them, what becomes of them when they are
-- merged, and what is left to merge when the run has ended.
-- This project's own choice.
use Rattle.std.specs.Prelude.{◌≡◌, ◌⊎◌, ◌<◌, ◌^◌, ℕ, List, None}
use Rattle.io_faults.specs.Faults.{Rose}
use Rattle.fb_values.specs.declared.facts.Entry.{Entry}
use Rattle.disk_model.specs.Disk.{IfKnown}
use Rattle.seg_tree.specs.Ids.{next_above}
use Rattle.seg_tree.specs.Indexes.{root_ids}
use Rattle.seg_store.specs.Keeping.{HasGreatNode, GoesOn, HasKept, FitsStore}
use Rattle.seg_store.specs.Stores.{disk_in}
use Rattle.fb_view.specs.SnapshotModel.{SnapshotModel}
use Rattle.fb_core.specs.Cores.{live_datoms}
use Rattle.board_rule.specs.Calls.{view_of}
use Rattle.fb_conn.specs.declared.conn.Conn.{Conn}
use Rattle.fb_conn.specs.Seats.{IsWorkerOf}
use Rattle.fb_roots.specs.declared.bases.Base.{Base}
use Rattle.fb_roots.specs.Bases.{IsBaseOf}
use Rattle.merge_worker.specs.declared.ends.WorkEnd.{WorkEnd}
use Rattle.merge_worker.specs.declared.ends.WorkEnd.TheVariants.{Shut, StoreFault, Spent, Memory}
use Rattle.merge_worker.specs.Work.{IsOldOrKept, AreAhead, AreOldOrKept, start_of, IsSameWorker}
use Rattle.fb_run.specs.declared.database.Directory.{Directory}
use Rattle.fb_run.specs.declared.merging.Trees.{Trees}
use Rattle.fb_run.specs.declared.merging.Worker.{Worker}
use Rattle.fb_run.specs.Outside.{DiskSpec}
use Rattle.fb_run.specs.Coverage.{IsCovered}

-- ---- the worker's trees

-- the adopted trees are of the history's entries up to `covered`,
-- and the others of its first entries too
pub record TreesStand {D : Type 0} {g : _} (trees : Trees D g) (h : List Entry) (covered : ℕ)
    : Type 0 where
  pub base : IsBaseOf trees.base h covered
  pub ahead : AreAhead trees.ahead h

-- the store goes on, and the trees from which the next merge starts fit it
abbrev pub TreesFit : {D : Type 0} {g : _} → DiskSpec D → Trees D g → Type 0
TreesFit disks trees =
    FitsStore disks.bytes disks.images trees.store (start_of trees.base trees.ahead).roots

-- the trees of a database that was opened, over the store that it was opened with
abbrev pub trees_in : {D : Type 0} {g : _} → Directory D g → Trees D g
trees_in directory =
    record {
      base = record {
        roots = directory.core.snapshot.roots;
        c = directory.core.snapshot.covered;
      };
      ahead = None;
      store = directory.store;
    }

-- the worker has its seat of this connection, and trees of the history that it knows
abbrev pub CanWork : {L R D : Type 0} {g : _} → Conn L R → Worker D g → Type 0
CanWork conn worker =
    IsWorkerOf conn worker.seat
    × TreesStand worker.trees worker.seat.last.entries (view_of worker.seat.board).covered

-- ---- merges

-- the count of the store's disk rose where merging ended so because of it, and nowhere else
abbrev pub CountsMerges : WorkEnd → ℕ → ℕ → Type 0
CountsMerges Shut old new = new ≡ old
CountsMerges StoreFault old new = Rose old new
CountsMerges Spent old new = new ≡ old
CountsMerges Memory old new = new ≡ old

-- What the file of the store kept when the trees were begun, it keeps.
abbrev pub StayKept : {D : Type 0} {g : _} → DiskSpec D → Trees D g → Trees D g → Type 0
StayKept disks begun now =
    (older : Base) → HasKept disks.bytes disks.images begun.store older begun.store
    → HasKept disks.bytes disks.images begun.store older now.store

-- trees that were merged since they were begun, and the end of that:
-- each is as it was, or is kept in the file
pub record HaveMerged {D : Type 0} {g : _} (disks : DiskSpec D) (begun now : Trees D g)
    (end : WorkEnd) : Type 0 where
  pub base : IsOldOrKept (HasKept disks.bytes disks.images begun.store) begun.base now.store
      now.base
  pub ahead : AreOldOrKept (HasKept disks.bytes disks.images begun.store) begun.ahead now.store
      now.ahead
  pub stays : StayKept disks begun now
  pub goes : (end ≡ StoreFault → ⊥) → GoesOn disks.bytes disks.images begun.store now.store
  pub counts : CountsMerges end (disks.faults (disk_in begun.store))
      (disks.faults (disk_in now.store))

-- the worker merged beside the sessions
pub record HasWorked {L R D : Type 0} {g : _} (disks : DiskSpec D) (conn : Conn L R)
    (old new : Worker D g) : Type 0 where
  pub can_work : CanWork conn new
  pub same : IsSameWorker (view_of old.seat.board) (view_of new.seat.board)
  pub merged : HaveMerged disks old.trees new.trees new.end
  pub fit : (new.end ≡ StoreFault → ⊥) → TreesFit disks new.trees

-- ---- the end

-- The numbers for new nodes are used up:
-- the trees had so great a number when they were begun, or a crash leaves a file that has.
abbrev pub NumbersAreUsedUp : {D : Type 0} {g : _} → DiskSpec D → Trees D g → D → Type 0
NumbersAreUsedUp disks begun segments =
    (2 ^ 61 < next_above (root_ids begun.base.roots))
    ⊎ IfKnown (disks.bytes (disk_in begun.store))
    (λ _. (image : List ℕ) → disks.images segments image → HasGreatNode image)

-- Merging came to its end: no merge is due, unless numbers are used up.
pub record HaveSettled {D : Type 0} {g : _} (disks : DiskSpec D) (merge_at : ℕ)
    (begun now : Trees D g) (end : WorkEnd) (last : SnapshotModel) : Type 0 where
  pub base : IsOldOrKept (HasKept disks.bytes disks.images begun.store) begun.base now.store
      now.base
  pub stays : StayKept disks begun now
  pub counts : CountsMerges end (disks.faults (disk_in begun.store))
      (disks.faults (disk_in now.store))
  pub shut : end ≡ Shut → live_datoms last.live < merge_at
  pub spent : end ≡ Spent → NumbersAreUsedUp disks begun (disk_in now.store)

-- what became of the trees since they were begun,
-- and of the disk of their store, which is handed back
pub record LeavesTrees {D : Type 0} {g : _} (disks : DiskSpec D) (merge_at : ℕ) (begun : Trees D g)
    (end : WorkEnd) (last : SnapshotModel) (segments : D) : Type 0 where
  pub counts : CountsMerges end (disks.faults (disk_in begun.store)) (disks.faults segments)
  pub covers : (last.covered ≡ begun.base.c)
      ⊎ IfKnown (disks.bytes (disk_in begun.store))
      (λ _. IsCovered disks last.entries last.covered segments)
  pub stays : HasKept disks.bytes disks.images begun.store begun.base begun.store
      → IfKnown (disks.bytes (disk_in begun.store))
      (λ _. IsCovered disks last.entries last.covered segments)
  pub shut : end ≡ Shut → live_datoms last.live < merge_at
  pub spent : end ≡ Spent → NumbersAreUsedUp disks begun segments
