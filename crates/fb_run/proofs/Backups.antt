-- What a backup begins with, why it ends as it does, and what it leaves of its target.
use Rattle.std.proofs.Common.{◌≡◌, ◌≢◌, ◌⊎◌, inl, inr, ℕ, List, [], ◌∷◌, Option, Some, zero, suc, refl, sym, ap, ◌∙◌}
use Rattle.std.proofs.Common.{subst, arith, ⊎_elim}
use Rattle.std.specs.Prelude.{Contains, IfOk, IfErr, IfSome, IsSome, Result, Ok, Err, string_bytes}
use Rattle.fb_values.specs.declared.facts.Entry.{Entry}
use Rattle.disk_model.specs.Disk.{IfKnown}
use Rattle.disk_log.specs.Logs.{disk_in}
use Rattle.log_model.specs.Log.{IsLogOf}
use Rattle.backup_model.specs.Backup.{Plan, BackupSays, appends, copied_of, bad_target as bad_target_there, differs_at}
use Rattle.fb_journal.specs.Readings.{LeavesBegun}
use Rattle.seg_codec.specs.Trees.{roots_of}
use Rattle.seg_store.specs.Stores.{disk_in as segments_in}
use Rattle.seg_store.specs.Trees.{root_of}
use Rattle.fb_view.specs.SnapshotModel.{SnapshotModel}
use Rattle.fb_backup.specs.declared.faults.BackupFault.TheVariants as backup_fault
use Rattle.fb_backup.specs.declared.faults.CopyFault.TheVariants as copy_fault
use Rattle.fb_ports.specs.Faults.{Rose}
use Rattle.fb_ports.specs.HostSpec.{HostSpec}
use Rattle.fb_ports.specs.declared.hosts.Part.{Part}
use Rattle.fb_ports.specs.declared.hosts.Part.TheVariants.{Log, Segments}
use Rattle.command_line.specs.Words.{Command, backup, standard}
use Rattle.fb_run.specs.declared.backing.Begun.{Begun}
use Rattle.fb_run.specs.declared.copying.NotCopied.{NotCopied}
use Rattle.fb_run.specs.declared.copying.NotCopied.TheVariants as not_copied
use Rattle.fb_run.specs.declared.database.Directory.{Directory}
use Rattle.fb_run.specs.declared.database.Disks.{Disks}
use Rattle.fb_run.specs.declared.database.Obstacle.TheVariants as obstacle
use Rattle.fb_run.specs.declared.database.Unready.{Unready}
use Rattle.fb_run.specs.declared.opening.Unopened.{Unopened}
use Rattle.fb_run.specs.declared.opening.Unopened.TheVariants as unopened
use Rattle.fb_run.specs.declared.outcome.Outcome.{Outcome}
use Rattle.fb_run.specs.Outside.{StreamSpec, DiskSpec, Ports, IsDiskOf, OpensOnly, of_directory, of_sinks}
use Rattle.fb_run.specs.Logs.{HasHistory, IsUnharmed}
use Rattle.fb_run.specs.Coverage.{StaysCovered}
use Rattle.fb_run.specs.Opening.{HostRefuses}
use Rattle.fb_run.specs.Database.{SameStreams, AreDisksOf, IsOpened, LeaveLogUnharmed, IsObstacle, IsUnready, disks_in}
use Rattle.fb_run.specs.StatusLines.{reported, console_failed, memory, target_failed, bad_target, target_differs, why_not_copied}
use Rattle.fb_run.specs.StatusLines.{status_of, line_of, copied_line}
use Rattle.fb_run.specs.Causes.{HasDisks, HasTarget, NoSession, OutOfMemory, SaysWhy, IsUnfailed, IsTargetUnfailed, IsTargetInTurn}
use Rattle.fb_run.specs.Causes.{TookWhole, TookPart, BacksUp, HasCopied, TargetSays, Causes}
use Rattle.fb_run.specs.Loading.{said_of}
use Rattle.fb_run.specs.Targets.{WasCopied, TargetHolds, TargetHasRoot}
use Rattle.fb_run.specs.Copying.{outside_of, OpensOutside, RefusesOutside, IsUnbegun, IsBegun, CopiesAll, HasTrees, EndsCopy}
use Rattle.fb_run.specs.Copying.{TellsCopy, HasBackedUp}
use Rattle.fb_run.proofs.Opens.{HaveAll, none_in, only_in, later_in, opens_more, opens_then}
use Rattle.fb_run.proofs.Directories.{opened_unharmed, opened_history, opened_covered}
use Rattle.fb_run.proofs.Causing.{has_disks}

-- ---- what is opened behind the directory

not_among : (from to : List ℕ) → from ≢ to → Contains (from ∷ []) to → ⊥
not_among from to apart (zero, within, is) = let same : from ≡ to = cc in apart same
not_among from to apart (suc k, within, is) = absurd (omega (arith, within))

-- opening the directory changes nothing that the host tells of another one
module _ {D : Type 0} (disks : DiskSpec D) (from to : List ℕ) (apart : from ≢ to) (old mid : HostSpec)
    (first : OpensOnly (of_directory from) old mid) where
  disk_over : (part : Part) (disk : D) → IsDiskOf mid disks to part disk → IsDiskOf old disks to part disk
  disk_over part disk is =
      let not = not_among from to apart in
      record {
        bytes = is.bytes ∙ first.disks to not part;
        faults = is.faults ∙ first.disk_faults to not part;
        images = λ image.
            let later = is.images image in
            let same = first.disk_images to not part image in (λ x. same.0 (later.0 x), λ x. later.1 (same.1 x));
        moment = is.moment ∙ first.disk_moment to not part;
      }

  pub disks_over : (both : Disks D) → AreDisksOf mid disks to both → AreDisksOf old disks to both
  disks_over both are = record { log = disk_over Log both.log are.log; segments = disk_over Segments both.segments are.segments }

-- what a backup begins with, in the words of what the host told before
module _ {I O D : Type 0} {g : _} (old mid new : HostSpec) (io : StreamSpec I O) (disks : DiskSpec D) (from to : List ℕ) (apart : from ≢ to)
    (directory : Directory D g) (opened : IsOpened old disks from directory) (streams : SameStreams old mid)
    (first : OpensOnly (of_directory from) old mid) where
  pub is_begun : {E : Type 0} (r : Result (Begun O D g) E) → IfOk r (λ begun. begun.directory ≡ directory)
      → IfOk r (λ begun. OpensOutside mid new io disks to begun.outside) → IfOk r (IsBegun old new io disks from to)
  is_begun (Ok begun) is opens = record {
    directory = subst (λ (d : Directory D g). IsOpened old disks from d) (sym is) opened;
    target = disks_over disks from to apart old mid first begun.outside.target opens.target;
    console = record {
      contents = opens.console.contents ∙ streams.sinks standard;
      faults = opens.console.faults ∙ streams.sink_faults standard;
    };
    host = opens.host ∙ streams.faults;
  }
  is_begun (Err e) is opens = tt

-- what a backup opens
abbrev ours : List ℕ → List ℕ → Ports
ours from to = record (of_sinks (standard ∷ [])) { directories = from ∷ to ∷ [] }

has_from : (from to : List ℕ) → HaveAll (of_directory from) (ours from to)
has_from from to = record {
  sources = λ other has. none_in other has;
  sinks = λ other has. none_in other has;
  directories = λ other has. only_in from other (to ∷ []) has;
}

has_outside : (from to : List ℕ) → HaveAll (outside_of to) (ours from to)
has_outside from to = record {
  sources = λ other has. has;
  sinks = λ other has. has;
  directories = λ other has. later_in from other (to ∷ []) has;
}

pub opens_alone : (from to : List ℕ) (old new : HostSpec) → OpensOnly (of_directory from) old new → OpensOnly (ours from to) old new
opens_alone from to old new only = opens_more (of_directory from) (ours from to) old new (has_from from to) only

-- the console is opened behind the target
pub opens_target : (to : List ℕ) (old new : HostSpec) → OpensOnly (of_directory to) old new → OpensOnly (outside_of to) old new
opens_target to old new only = opens_more (of_directory to) (outside_of to) old new (record {
  sources = λ other has. none_in other has;
  sinks = λ other has. none_in other has;
  directories = λ other has. has;
}) only

pub opens_console : (to : List ℕ) (old mid new : HostSpec) → OpensOnly (of_directory to) old mid
    → OpensOnly (of_sinks (standard ∷ [])) mid new → OpensOnly (outside_of to) old new
opens_console to old mid new first then =
    opens_then (outside_of to) old mid new (opens_target to old mid first)
    (opens_more (of_sinks (standard ∷ [])) (outside_of to) mid new (record {
      sources = λ other has. has;
      sinks = λ other has. has;
      directories = λ other has. none_in other has;
    }) then)

-- why the target, or the console behind it, was not opened
pub refuses_target : (to : List ℕ) (old new : HostSpec) → OpensOnly (of_directory to) old new → (why : Unopened) → HostRefuses to old new why
    → RefusesOutside to old new why
refuses_target to old new only (unopened.CannotOpen name) not = (not.1, inl (not.0, only))
refuses_target to old new only unopened.Memory not = tt

pub refuses_console : (to : List ℕ) (old mid new : HostSpec) → mid.faults ≡ old.faults → (why : Unopened) → HostRefuses standard mid new why
    → RefusesOutside to old new why
refuses_console to old mid new same (unopened.CannotOpen name) not = (subst (λ n. Rose n new.faults) same not.1, inr not.0)
refuses_console to old mid new same unopened.Memory not = tt

module _ {D : Type 0} (disks : DiskSpec D) (from to : List ℕ) (old mid new : HostSpec) (first : OpensOnly (of_directory from) old mid) where
  pub opens_all : OpensOnly (outside_of to) mid new → OpensOnly (ours from to) old new
  opens_all then =
      opens_then (ours from to) old mid new (opens_alone from to old mid first)
      (opens_more (outside_of to) (ours from to) mid new (has_outside from to) then)

  opens_both : OpensOnly (of_directory to) mid new
      → OpensOnly (record { sources = []; sinks = []; directories = from ∷ to ∷ [] }) old new
  opens_both then =
      let both : Ports = record { sources = []; sinks = []; directories = from ∷ to ∷ [] } in
      opens_then both old mid new
      (opens_more (of_directory from) both old mid (record {
        sources = λ other has. has;
        sinks = λ other has. has;
        directories = λ other has. only_in from other (to ∷ []) has;
      }) first)
      (opens_more (of_directory to) both mid new (record {
        sources = λ other has. has;
        sinks = λ other has. has;
        directories = λ other has. later_in from other (to ∷ []) has;
      }) then)

  module _ (both : Disks D) (same : mid.faults ≡ old.faults) (unharmed : LeaveLogUnharmed old disks from both)
      (read : HasHistory old from) where
    outside_obstacle : (why : Unopened) → OpensOnly (outside_of to) mid new → RefusesOutside to mid new why
        → IsObstacle old new disks (ours from to) from (from ∷ to ∷ standard ∷ []) (Some both) (obstacle.Unopened why)
    outside_obstacle (unopened.CannotOpen name) only (rose, inl (is, alone)) = record {
      place = 1;
      named = ap Some (sym is);
      left_is = (refl, read);
      behind = inl (opens_both alone);
      host = subst (λ n. Rose n new.faults) same rose;
    }
    outside_obstacle (unopened.CannotOpen name) only (rose, inr is) = record {
      place = 2;
      named = ap Some (sym is);
      left_is = (refl, read);
      behind = inr (opens_all only);
      host = subst (λ n. Rose n new.faults) same rose;
    }
    outside_obstacle unopened.Memory only not = inl refl

    unready_outside : (why : Unopened) → OpensOnly (outside_of to) mid new → RefusesOutside to mid new why
        → IsUnready old new disks (ours from to) from (from ∷ to ∷ standard ∷ [])
        (record { why = obstacle.Unopened why; disks = Some both })
    unready_outside why only not = record { why = outside_obstacle why only not; unharmed = unharmed }

  pub is_unready : {T : Type 0} {g : _} (directory : Directory D g) → IsOpened old disks from directory → SameStreams old mid
      → (r : Result T (Unready D)) → OpensOnly (outside_of to) mid new → IfErr r (IsUnbegun mid new to directory)
      → IfErr r (IsUnready old new disks (ours from to) from (from ∷ to ∷ standard ∷ []))
  is_unready directory opened streams (Ok x) only not = tt
  is_unready directory opened streams (Err unready) only not =
      subst (λ (u : Unready D). IsUnready old new disks (ours from to) from (from ∷ to ∷ standard ∷ []) u) (sym not.is)
      (unready_outside (disks_in directory) streams.faults (opened_unharmed old disks from directory opened)
      (opened_history old disks from directory opened) not.why only not.not)

-- ---- what is copied

-- a fault of the target's disk, a target that is refused, or want of memory
abbrev IsEarly : ℕ → Type 0
IsEarly status = (status ≡ 3) ⊎ (status ≡ 4) ⊎ (status ≡ 9)

ends_early : (why : NotCopied) (status : ℕ) (line : List ℕ) → SaysWhy (why_not_copied why) status line → IsEarly status
ends_early (not_copied.Log backup_fault.Disk) status line (inl says) = inl says.0
ends_early (not_copied.Log backup_fault.Disk) status line (inr says) = inr (inr says.0)
ends_early (not_copied.Log (backup_fault.BadLog nth at)) status line (inl says) = inr (inl says.0)
ends_early (not_copied.Log (backup_fault.BadLog nth at)) status line (inr says) = inr (inr says.0)
ends_early (not_copied.Log (backup_fault.Other t)) status line (inl says) = inr (inl says.0)
ends_early (not_copied.Log (backup_fault.Other t)) status line (inr says) = inr (inr says.0)
ends_early (not_copied.Log backup_fault.Memory) status line (inl says) = inr (inr says.0)
ends_early (not_copied.Log backup_fault.Memory) status line (inr says) = inr (inr says.0)
ends_early (not_copied.Segments copy_fault.Disk) status line (inl says) = inl says.0
ends_early (not_copied.Segments copy_fault.Disk) status line (inr says) = inr (inr says.0)
ends_early (not_copied.Segments copy_fault.Memory) status line (inl says) = inr (inr says.0)
ends_early (not_copied.Segments copy_fault.Memory) status line (inr says) = inr (inr says.0)

-- a copy that ended early did not copy all
not_all : (status : ℕ) → IsEarly status → WasCopied status → ⊥
not_all status (inl is) (inl all) = omega (arith, is, all)
not_all status (inl is) (inr all) = omega (arith, is, all)
not_all status (inr (inl is)) (inl all) = omega (arith, is, all)
not_all status (inr (inl is)) (inr all) = omega (arith, is, all)
not_all status (inr (inr is)) (inl all) = omega (arith, is, all)
not_all status (inr (inr is)) (inr all) = omega (arith, is, all)

-- a copy that did not end at the log's file refused nothing
not_refused : (status : ℕ) → (status ≡ 0) ⊎ (status ≡ 3) ⊎ (status ≡ 6) ⊎ (status ≡ 9) → status ≡ 4 → ⊥
not_refused status (inl is) four = omega (arith, is, four)
not_refused status (inr (inl is)) four = omega (arith, is, four)
not_refused status (inr (inr (inl is))) four = omega (arith, is, four)
not_refused status (inr (inr (inr is))) four = omega (arith, is, four)

-- what is said of one
pub says_copy : (why : NotCopied) (n status : ℕ) (line : List ℕ) → n ≡ status_of (why_not_copied why)
    → ((status ≡ n) × (line ≡ line_of (why_not_copied why))) ⊎ OutOfMemory status line → SaysWhy (why_not_copied why) status line
says_copy (not_copied.Log backup_fault.Disk) n status line is (inl said) = inl (said.0 ∙ is, said.1)
says_copy (not_copied.Log backup_fault.Disk) n status line is (inr said) = inr said
says_copy (not_copied.Log (backup_fault.BadLog nth at)) n status line is (inl said) = inl (said.0 ∙ is, said.1)
says_copy (not_copied.Log (backup_fault.BadLog nth at)) n status line is (inr said) = inr said
says_copy (not_copied.Log (backup_fault.Other t)) n status line is (inl said) = inl (said.0 ∙ is, said.1)
says_copy (not_copied.Log (backup_fault.Other t)) n status line is (inr said) = inr said
says_copy (not_copied.Log backup_fault.Memory) n status line is (inl said) = inl (said.0 ∙ is, said.1)
says_copy (not_copied.Log backup_fault.Memory) n status line is (inr said) = inr said
says_copy (not_copied.Segments copy_fault.Disk) n status line is (inl said) = inl (said.0 ∙ is, said.1)
says_copy (not_copied.Segments copy_fault.Disk) n status line is (inr said) = inr said
says_copy (not_copied.Segments copy_fault.Memory) n status line is (inl said) = inl (said.0 ∙ is, said.1)
says_copy (not_copied.Segments copy_fault.Memory) n status line is (inr said) = inr said

-- a log that got what it lacked, and then the trees
module _ {D : Type 0} (disks : DiskSpec D) (s : SnapshotModel) (was now : Disks D) (n : ℕ) where
  pub ends_copy : (end : Result ℕ NotCopied) (log : D) → now.log ≡ log
      → IfKnown (disks.bytes was.log) (λ file. (lacking : List Entry) × BackupSays file s.entries (appends lacking)
      × (n ≡ copied_of (appends lacking)))
      → IfKnown (disks.bytes was.log) (λ _. (image : List ℕ) → disks.images log image → IsLogOf image s.entries)
      → disks.faults log ≡ disks.faults was.log → HasTrees disks s was.segments now.segments n end → EndsCopy disks s was now end
  ends_copy (Ok m) log is lacked stands unfailed trees = record {
    lacked = λ file held.
        let has = lacked file held in (has.0, has.1, trees.0 ∙ has.2);
    stands = λ file held image left. stands file held image (subst (λ (d : D). disks.images d image) is left);
    unfailed = ap disks.faults is ∙ unfailed;
    trees = trees.1;
  }
  ends_copy (Err (not_copied.Log fault)) log is lacked stands unfailed trees = absurd trees
  ends_copy (Err (not_copied.Segments fault)) log is lacked stands unfailed trees =
      record { unfailed = ap disks.faults is ∙ unfailed; counted = trees }

-- ---- how it ends

module _ {I O D : Type 0} {g : _} (spec new : HostSpec) (io : StreamSpec I O) (disks : DiskSpec D) (outcome : Outcome I O D)
    (from to : List ℕ) (begun : Begun O D g) (is : IsBegun spec new io disks from to begun) (none : NoSession outcome)
    (log_is : outcome.log ≡ Some (disk_in begun.directory.log))
    (segments_is : outcome.segments ≡ Some (segments_in begun.directory.store))
    (has : HasBackedUp io.contents io.sink_faults disks begun.directory.core.snapshot begun.directory.recovered begun.outside.target
    begun.outside.console outcome) where
  abbrev command : Option Command
  command = Some (backup from to)

  abbrev s : SnapshotModel
  s = begun.directory.core.snapshot

  abbrev was : Disks D
  was = begun.outside.target

  abbrev now : Disks D
  now = has.now.target

  opening : IfKnown (spec.disks from Log) (λ file. IsLogOf file s.entries)
  opening = λ file held. is.directory.reopened.history file (is.directory.log.bytes ∙ held)

  unfailed : (part : Part) → IsUnfailed spec disks command outcome part
  unfailed Log = (disk_in begun.directory.log, log_is, is.directory.reopened.unfailed ∙ is.directory.log.faults)
  unfailed Segments =
      (segments_in begun.directory.store, segments_is, is.directory.reopened.segments_unfailed ∙ is.directory.segments.faults)

  abbrev backs_up : BacksUp spec disks new.faults command outcome
  backs_up = record {
    from = from;
    to = to;
    is_backup = refl;
    none = none;
    host = is.host;
    history = s.entries;
    opening = opening;
    covered = s.covered;
    coverage = λ file held. is.directory.reopened.coverage file (is.directory.segments.bytes ∙ held);
    unfailed = unfailed;
    kept = subst (λ (o : Option D). IfSome o (StaysCovered spec disks from s.entries s.covered)) (sym segments_is)
        (opened_covered spec disks from begun.directory is.directory);
  }

  both : HasDisks outcome
  both = has_disks outcome (disk_in begun.directory.log) (segments_in begun.directory.store) log_is segments_is

  there : HasTarget outcome
  there = record { log = subst IsSome (sym has.log_is) refl; segments = subst IsSome (sym has.segments_is) refl }

  log_unfailed : disks.faults now.log ≡ disks.faults was.log → IsTargetUnfailed spec disks command outcome Log
  log_unfailed same = (now.log, has.log_is, same ∙ is.target.log.faults)

  -- nothing was asked of the target's segments
  in_turn : now.segments ≡ was.segments → IsTargetInTurn spec disks command outcome Log
  in_turn untouched =
      subst (λ (o : Option D). IfSome o (IsDiskOf spec disks to Segments)) (sym has.segments_is)
      (subst (IsDiskOf spec disks to Segments) (sym untouched) is.target.segments)

  module _ (n : ℕ) (all : CopiesAll disks s was now n) where
    targets_unfailed : (part : Part) → IsTargetUnfailed spec disks command outcome part
    targets_unfailed Log = log_unfailed all.unfailed
    targets_unfailed Segments = (now.segments, has.segments_is, all.trees.unfailed ∙ is.target.segments.faults)

    has_copied : (Took : List ℕ → Option (List ℕ) → Option (List ℕ) → ℕ → ℕ → Type 0) (console : O) → outcome.console ≡ Some console
        → Took (copied_line begun.directory.recovered n s.covered) (io.contents begun.outside.console) (io.contents console)
        (io.sink_faults begun.outside.console) (io.sink_faults console)
        → HasCopied spec io disks new.faults command outcome Took
    has_copied Took console console_is took = record {
      begun = backs_up;
      copied = n;
      lacked = λ file held. all.lacked file (is.target.log.bytes ∙ held);
      unfailed = targets_unfailed;
      console = console;
      console_is = console_is;
      took = subst (λ (m : ℕ). Took (copied_line m n s.covered) (spec.sinks standard) (io.contents console) (spec.sink_faults standard)
          (io.sink_faults console)) is.directory.reopened.recovered
          (subst (λ (had : Option (List ℕ)). Took (copied_line begun.directory.recovered n s.covered) had (io.contents console)
          (spec.sink_faults standard) (io.sink_faults console)) is.console.contents
          (subst (λ (m : ℕ). Took (copied_line begun.directory.recovered n s.covered) (io.contents begun.outside.console)
          (io.contents console) m (io.sink_faults console)) is.console.faults took));
    }

  target_says : (plan : Plan) → disks.faults now.log ≡ disks.faults was.log → now.segments ≡ was.segments
      → IfKnown (disks.bytes was.log) (λ file. BackupSays file s.entries plan)
      → TargetSays spec disks new.faults command outcome plan
  target_says plan same untouched says = record {
    begun = backs_up;
    in_turn = in_turn untouched;
    unfailed = log_unfailed same;
    says = λ file held. says file (is.target.log.bytes ∙ held);
  }

  caused_by : (end : Result ℕ NotCopied) → EndsCopy disks s was now end
      → TellsCopy io.contents io.sink_faults begun.directory.recovered s.covered begun.outside.console end (said_of outcome)
      → Causes spec new io disks command outcome
  caused_by (Ok n) all (inl refused) =
      record { why = memory; says = inr refused.0; cause = inl (none, refl, inl both); console = refused.1; targets = tt }
  caused_by (Ok n) all (inr report) =
      let shown : IsSome outcome.console = subst IsSome (sym report.console_is) refl in
      elim report.took [
        | inl whole ↦ record {
          why = reported;
          says = whole.0;
          cause = inr (inr (has_copied n all TookWhole report.now report.console_is whole.1));
          console = shown;
          targets = there;
        }
        | inr part ↦ record {
          why = console_failed;
          says = part.0;
          cause = inr (inr (has_copied n all TookPart report.now report.console_is part.1));
          console = shown;
          targets = there;
        }
      ]
  caused_by (Err (not_copied.Log backup_fault.Disk)) stop told = record {
    why = target_failed Log;
    says = told.0;
    cause = (
      backs_up,
      in_turn stop.untouched,
      (now.log, has.log_is, subst (λ (n : ℕ). Rose n (disks.faults now.log)) is.target.log.faults stop.counted),
    );
    console = told.1;
    targets = there;
  }
  caused_by (Err (not_copied.Log (backup_fault.BadLog nth at))) stop told = record {
    why = bad_target nth at;
    says = told.0;
    cause = target_says (bad_target_there nth at) stop.counted stop.untouched stop.why;
    console = told.1;
    targets = there;
  }
  caused_by (Err (not_copied.Log (backup_fault.Other t))) stop told = record {
    why = target_differs t;
    says = told.0;
    cause = target_says (differs_at t) stop.counted stop.untouched stop.why;
    console = told.1;
    targets = there;
  }
  caused_by (Err (not_copied.Log backup_fault.Memory)) stop told =
      record { why = memory; says = told.0; cause = inl (none, refl, inl both); console = told.1; targets = tt }
  caused_by (Err (not_copied.Segments copy_fault.Disk)) stop told = record {
    why = target_failed Segments;
    says = told.0;
    cause = (
      backs_up,
      log_unfailed stop.unfailed,
      (now.segments, has.segments_is, subst (λ (n : ℕ). Rose n (disks.faults now.segments)) is.target.segments.faults stop.counted),
    );
    console = told.1;
    targets = there;
  }
  caused_by (Err (not_copied.Segments copy_fault.Memory)) stop told =
      record { why = memory; says = told.0; cause = inl (none, refl, inl both); console = told.1; targets = tt }

  pub caused_by_backup : Causes spec new io disks command outcome
  caused_by_backup = caused_by has.now.end has.copies.ended has.told

  pub backup_unharmed : IfSome outcome.log (IsUnharmed spec disks from)
  backup_unharmed =
      subst (λ (o : Option D). IfSome o (IsUnharmed spec disks from)) (sym log_is)
      (opened_unharmed spec disks from begun.directory is.directory)

  -- ---- what it leaves of its target

  all_by : (end : Result ℕ NotCopied) → EndsCopy disks s was now end
      → TellsCopy io.contents io.sink_faults begun.directory.recovered s.covered begun.outside.console end (said_of outcome)
      → WasCopied outcome.status → (n : ℕ) × CopiesAll disks s was now n
  all_by (Ok n) all told copied = (n, all)
  all_by (Err why) stop told copied =
      absurd (not_all outcome.status (ends_early why outcome.status (string_bytes outcome.line) told.0) copied)

  all_of : WasCopied outcome.status → (n : ℕ) × CopiesAll disks s was now n
  all_of copied = all_by has.now.end has.copies.ended has.told copied

  -- what is said of a target that is not refused
  not_said : (n : ℕ) (told : List ℕ) → (n ≡ 0) ⊎ (n ≡ 3) ⊎ (n ≡ 6) ⊎ (n ≡ 9)
      → ((outcome.status ≡ n) × (string_bytes outcome.line ≡ told)) ⊎ OutOfMemory outcome.status (string_bytes outcome.line)
      → outcome.status ≡ 4 → ⊥
  not_said n told other (inl says) four = not_refused n other (sym says.0 ∙ four)
  not_said n told other (inr says) four = not_refused outcome.status (inr (inr (inr says.0))) four

  left_by : (end : Result ℕ NotCopied) → EndsCopy disks s was now end
      → TellsCopy io.contents io.sink_faults begun.directory.recovered s.covered begun.outside.console end (said_of outcome)
      → outcome.status ≡ 4 → LeavesBegun disks.bytes disks.images disks.moment disks.images_since was.log now.log
  left_by (Ok n) all (inl refused) four = absurd (not_refused outcome.status (inr (inr (inr refused.0.0))) four)
  left_by (Ok n) all (inr report) four = elim report.took [
    | inl whole ↦ absurd (not_refused outcome.status (inl whole.0.0) four)
    | inr part ↦ absurd (not_said 6 (line_of console_failed) (inr (inr (inl refl))) part.0 four)
  ]
  left_by (Err (not_copied.Log backup_fault.Disk)) stop told four =
      absurd (not_said 3 (line_of (target_failed Log)) (inr (inl refl)) told.0 four)
  left_by (Err (not_copied.Log (backup_fault.BadLog nth at))) stop told four = stop.refused tt
  left_by (Err (not_copied.Log (backup_fault.Other t))) stop told four = stop.refused tt
  left_by (Err (not_copied.Log backup_fault.Memory)) stop told four = absurd (not_said 9 (line_of memory) (inr (inr (inr refl))) told.0 four)
  left_by (Err (not_copied.Segments copy_fault.Disk)) stop told four =
      absurd (not_said 3 (line_of (target_failed Segments)) (inr (inl refl)) told.0 four)
  left_by (Err (not_copied.Segments copy_fault.Memory)) stop told four =
      absurd (not_said 9 (line_of memory) (inr (inr (inr refl))) told.0 four)

  pub target_holds : IfSome outcome.target_log (TargetHolds spec disks from to outcome.status)
  target_holds = subst (λ (o : Option D). IfSome o (TargetHolds spec disks from to outcome.status)) (sym has.log_is) (record {
    history = s.entries;
    opening = opening;
    any_moment = λ n file held before image since.
        (has.copies.beginnings n file (is.target.log.bytes ∙ held) (λ im x. before im ((is.target.log.images im).0 x))).each image
        (subst (λ (t : ℕ). disks.images_since now.log t image) (sym is.target.log.moment) since);
    at_end = λ copied file held. (all_of copied).1.stands file (is.target.log.bytes ∙ held);
    refused = λ four file held image since.
        ⊎_elim (λ im. inl ((is.target.log.images image).0 im)) (λ short. inr short)
        ((left_by has.now.end has.copies.ended has.told four file (is.target.log.bytes ∙ held)).each image
        (subst (λ (t : ℕ). disks.images_since now.log t image) (sym is.target.log.moment) since));
  })

  pub target_has_root : IfSome outcome.target_segments (TargetHasRoot spec disks from to outcome.status)
  target_has_root =
      subst (λ (o : Option D). IfSome o (TargetHasRoot spec disks from to outcome.status)) (sym has.segments_is) (record {
        history = s.entries;
        opening = opening;
        root = root_of s.roots s.covered;
        ids = roots_of s.roots;
        agrees = is.directory.reopened.core.snapshot.history.roots_stand;
        newest = λ file held. is.directory.reopened.coverage file (is.directory.segments.bytes ∙ held);
        copy = λ copied file held. (all_of copied).1.trees.copy file (is.target.segments.bytes ∙ held);
        left = λ file held more.
            let kept = has.copies.records file (is.target.segments.bytes ∙ held) more in (
              kept.0 ∙ (is.target.segments.bytes ∙ held),
              λ image x. (is.target.segments.images image).0 (kept.1 image x),
            );
      })
