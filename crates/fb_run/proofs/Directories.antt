-- What opening a directory gives, in the words of what the host told before, and what the run leaves of the log.
use Rattle.std.proofs.Common.{◌≡◌, ℕ, ◌+◌, ◌≤◌, ◌⊎◌, inl, inr, List, [], ◌∷◌, ◌++◌, length, Option, Some, None, suc, refl, sym, ap, ◌∙◌}
use Rattle.std.proofs.Common.{subst, ⊎_elim, arith, take}
use Rattle.std.proofs.lemmas.List.{take-append-le, length-take}
use Rattle.std.specs.Prelude.{IfSome, Result, Ok, Err, IfErr}
use Rattle.fb_values.specs.declared.facts.Entry.{Entry}
use Rattle.fb_model.specs.History.{basis, upto}
use Rattle.fb_model.specs.Lawful.{IsLawful}
use Rattle.fb_model.proofs.LawfulHistories.{IsLawful-length}
use Rattle.fb_model.proofs.OneMoreEntry.{basis-push}
use Rattle.fb_model.proofs.Times.{next_t}
use Rattle.disk_model.specs.Disk.{IfKnown, LeavesOnly}
use Rattle.disk_model.specs.Journal.{segments_mark, JournalStands}
use Rattle.disk_model.proofs.Journals.{stands-holds}
use Rattle.log_model.specs.Log.{IsLogOf}
use Rattle.log_model.specs.Kept.{KeptRoot, FileKeeps, kept_roots}
use Rattle.fb_journal.specs.Journals.{mark_of}
use Rattle.seg_store.specs.declared.stores.SegStore.{SegStore}
use Rattle.seg_store.specs.Stores.{disk_in as segments_in, StoreKeeps}
use Rattle.seg_store.specs.Keeping.{FileHas}
use Rattle.seg_store.specs.Trees.{root_of}
use Rattle.disk_log.specs.Disks.{IsLogFrom, HasKept, HasBroken}
use Rattle.disk_log.specs.Logs.{disk_in}
use Rattle.fb_core.specs.declared.accepting.Draft.{Draft}
use Rattle.fb_core.specs.Cores.{entry_of}
use Rattle.fb_view.specs.SnapshotModel.{SnapshotModel}
use Rattle.fb_ports.specs.Faults.{Rose}
use Rattle.fb_ports.specs.declared.hosts.Part.TheVariants.{Log, Segments}
use Rattle.fb_ports.specs.HostSpec.{HostSpec}
use Rattle.fb_ports.specs.HostCalls.{StaysButDisk}
use Rattle.fb_recover.specs.Faults.{CountsOpening}
use Rattle.fb_recover.specs.Openings.{HasRoot}
use Rattle.fb_run.specs.declared.database.Directory.{Directory}
use Rattle.fb_run.specs.declared.database.Disks.{Disks}
use Rattle.fb_run.specs.declared.database.Obstacle.TheVariants as obstacle
use Rattle.fb_run.specs.declared.database.Unready.{Unready}
use Rattle.fb_run.specs.declared.opening.Unopened.{Unopened}
use Rattle.fb_run.specs.declared.opening.Unopened.TheVariants as unopened
use Rattle.fb_run.specs.declared.outcome.SessionOut.{SessionOut}
use Rattle.fb_run.specs.declared.outcome.Outcome.{Outcome}
use Rattle.command_line.specs.Words.{standard}
use Rattle.fb_run.specs.Outside.{StreamSpec, DiskSpec, Ports, IsDiskOf, OpensOnly, OpensUpTo, of_directory, of_scripts, of_sinks, EachOf}
use Rattle.fb_run.specs.Opening.{IsOpenedFor, HasOpened, HostRefuses, IsUnopened}
use Rattle.fb_run.specs.Logs.{HasHistory, IsUnharmed, LogHolds}
use Rattle.fb_run.specs.Coverage.{StaysCovered}
use Rattle.fb_run.specs.Database.{SameStreams, IsOpened, IsRefused, LeaveLogUnharmed, IsObstacle, IsUnready}
use Rattle.fb_run.specs.Database.{disks_in}
use Rattle.fb_run.specs.Running.{LeavesLog, HandsLogBack, GoesOnFrom}
use Rattle.fb_run.proofs.Opens.{opens_behind, up_to_behind}

-- ---- what is opened behind the directory

module _ {D : Type 0} (disks : DiskSpec D) (ports : Ports) (dir : List ℕ) (rest names : List (List ℕ)) (old new : HostSpec)
    (at : ports.directories ≡ dir ∷ rest) (only : OpensOnly (of_directory dir) old new) where
  only_first : OpensUpTo ports 0 old new
  only_first =
      subst (λ (ds : List (List ℕ)). OpensOnly (record { sources = []; sinks = []; directories = take 1 ds }) old new) (sym at) only

  part_obstacle : (why : Unopened) → HostRefuses dir old new why
      → IsObstacle old new disks ports dir (dir ∷ names) None (obstacle.Unopened why)
  part_obstacle (unopened.CannotOpen name) not = record {
    place = 0;
    named = ap Some (sym not.0);
    left_is = refl;
    behind = only_first;
    host = not.1;
  }
  part_obstacle unopened.Memory not = inr (refl, only_first)

  -- the directory was not opened
  pub unready_part : (why : Unopened) → HostRefuses dir old new why
      → IsUnready old new disks ports dir (dir ∷ names) (record { why = obstacle.Unopened why; disks = None })
  unready_part why not = record { why = part_obstacle why not; unharmed = tt }

module _ {D : Type 0} (disks : DiskSpec D) (dir : List ℕ) (old mid new : HostSpec) (both : Disks D) (same : mid.faults ≡ old.faults)
    (unharmed : LeaveLogUnharmed old disks dir both) (read : HasHistory old dir) (first : OpensOnly (of_directory dir) old mid) where
  script_obstacle : (scripts : List (List ℕ)) (why : Unopened) → IsUnopened scripts mid new why
      → IsObstacle old new disks (record (of_scripts scripts) { directories = dir ∷ [] }) dir (dir ∷ scripts) (Some both)
      (obstacle.Unopened why)
  script_obstacle scripts (unopened.CannotOpen name) not = record {
    place = suc not.place;
    named = not.named;
    left_is = (refl, read);
    behind = up_to_behind (of_scripts scripts) dir old mid new not.place first not.behind;
    host = subst (λ n. Rose n new.faults) same not.host;
  }
  script_obstacle scripts unopened.Memory not = inl refl

  -- the source or the sink of a script was not opened
  pub unready_script : (scripts : List (List ℕ)) (why : Unopened) → IsUnopened scripts mid new why
      → IsUnready old new disks (record (of_scripts scripts) { directories = dir ∷ [] }) dir (dir ∷ scripts)
      (record { why = obstacle.Unopened why; disks = Some both })
  unready_script scripts why not = record { why = script_obstacle scripts why not; unharmed = unharmed }

  console_obstacle : (why : Unopened) → OpensOnly (of_sinks (standard ∷ [])) mid new → HostRefuses standard mid new why
      → IsObstacle old new disks (record (of_sinks (standard ∷ [])) { directories = dir ∷ [] }) dir (dir ∷ standard ∷ []) (Some both)
      (obstacle.Unopened why)
  console_obstacle (unopened.CannotOpen name) only not = record {
    place = 1;
    named = ap Some (sym not.0);
    left_is = (refl, read);
    behind = inr (opens_behind (of_sinks (standard ∷ [])) dir old mid new first only);
    host = subst (λ n. Rose n new.faults) same not.1;
  }
  console_obstacle unopened.Memory only not = inl refl

  -- the console was not opened
  pub unready_console : (why : Unopened) → OpensOnly (of_sinks (standard ∷ [])) mid new → HostRefuses standard mid new why
      → IsUnready old new disks (record (of_sinks (standard ∷ [])) { directories = dir ∷ [] }) dir (dir ∷ standard ∷ [])
      (record { why = obstacle.Unopened why; disks = Some both })
  unready_console why only not = record { why = console_obstacle why only not; unharmed = unharmed }

-- what was refused behind something else
pub refuses_later : (name : List ℕ) (old mid new : HostSpec) → mid.faults ≡ old.faults → (why : Unopened) → HostRefuses name mid new why
    → HostRefuses name old new why
refuses_later name old mid new same (unopened.CannotOpen why) not = (not.0, subst (λ n. Rose n new.faults) same not.1)
refuses_later name old mid new same unopened.Memory not = tt

-- opening the log changes nothing that the host tells of the segments
pub other_part : {D : Type 0} (disks : DiskSpec D) (dir : List ℕ) (old mid : HostSpec) (disk : D) → StaysButDisk dir Log old mid
    → IsDiskOf mid disks dir Segments disk → IsDiskOf old disks dir Segments disk
other_part disks dir old mid disk stays is = record {
  bytes = is.bytes ∙ stays.disks dir Segments (λ _ e. absurd (cc));
  faults = is.faults ∙ stays.disk_faults dir Segments (λ _ e. absurd (cc));
  images = λ image.
      let later = is.images image in
      let first = stays.disk_images dir Segments (λ _ e. absurd (cc)) image in (λ x. first.0 (later.0 x), λ x. later.1 (first.1 x));
  moment = is.moment ∙ stays.disk_moment dir Segments (λ _ e. absurd (cc));
}

module _ {D : Type 0} (spec : HostSpec) (disks : DiskSpec D) (dir : List ℕ) (disk : D) (is : IsDiskOf spec disks dir Log disk) where
  unharmed_log : (log : D) → IfKnown (disks.bytes disk) (λ file. LeavesOnly disks.moment disks.images_since disk log
      (λ image. disks.images disk image ⊎ ((length file ≤ 16) × (length image ≤ 16)))) → IsUnharmed spec disks dir log
  unharmed_log log leaves = λ file told_is image since.
      ⊎_elim
      (λ (left : disks.images disk image). inl ((is.images image).0 left))
      (λ (few : (length file ≤ 16) × (length image ≤ 16)). inr few)
      ((leaves file (is.bytes ∙ told_is)).each image
      (subst (λ (t : ℕ). disks.images_since log t image) (sym is.moment) since))

  -- the database of a directory was not reopened
  pub unready_log : (ports : Ports) (names : List (List ℕ)) (new : HostSpec) (segments : D) (unready : Unready D)
      → IsDiskOf spec disks dir Segments segments → new.faults ≡ spec.faults → IsRefused disks disk segments unready
      → IsUnready spec new disks ports dir names unready
  unready_log ports names new segments unready its same refused =
      let both : Disks D = record { log = refused.log; segments = refused.file } in
      subst (λ (u : Unready D). IsUnready spec new disks ports dir names u) (sym refused.is) (record {
        why = (
          same,
          record {
            both = both;
            is = refl;
            cause = λ file told_is. refused.cause file (is.bytes ∙ told_is);
            counted = subst (λ (n : ℕ). CountsOpening refused.fault Log n (disks.faults refused.log)) is.faults refused.counted;
            segments_counted = subst (λ (n : ℕ). CountsOpening refused.fault Segments n (disks.faults refused.file)) its.faults
                refused.segments_counted;
            untouched = λ of. subst (IsDiskOf spec disks dir Segments) (sym (refused.untouched of)) its;
          },
        );
        unharmed = unharmed_log refused.log refused.unharmed;
      })

  pub not_reopened : {T : Type 0} (r : Result T (Unready D)) (ports : Ports) (names : List (List ℕ)) (new : HostSpec) (segments : D)
      → IsDiskOf spec disks dir Segments segments → new.faults ≡ spec.faults → IfErr r (IsRefused disks disk segments)
      → IfErr r (IsUnready spec new disks ports dir names)
  not_reopened (Ok x) ports names new segments its same refused = tt
  not_reopened (Err unready) ports names new segments its same refused = unready_log ports names new segments unready its same refused

-- a directory that was opened is left as it was
pub opened_unharmed : {D : Type 0} {g : _} (spec : HostSpec) (disks : DiskSpec D) (dir : List ℕ) (directory : Directory D g)
    → IsOpened spec disks dir directory → LeaveLogUnharmed spec disks dir (disks_in directory)
opened_unharmed spec disks dir directory opened =
    unharmed_log spec disks dir opened.disk opened.log (disk_in directory.log) opened.reopened.unharmed

-- its log was read
pub opened_history : {D : Type 0} {g : _} (spec : HostSpec) (disks : DiskSpec D) (dir : List ℕ) (directory : Directory D g)
    → IsOpened spec disks dir directory → HasHistory spec dir
opened_history spec disks dir directory opened =
    λ file held. (directory.core.snapshot.entries, opened.reopened.history file (opened.log.bytes ∙ held))

-- a crash leaves the roots of a store's records
roots_left : {D : Type 0} {g : _} (disks : DiskSpec D) (records : List (List ℕ)) (store : SegStore D g) (file image : List ℕ)
    → StoreKeeps disks.bytes disks.images records store → disks.bytes (segments_in store) ≡ Some file
    → disks.images (segments_in store) image → FileKeeps image (kept_roots records)
roots_left disks records store file image keeps told_is left =
    let kept = keeps.journal.file file told_is in
    let stands : JournalStands segments_mark records file =
    subst (λ (m : List ℕ). JournalStands m records file) store.marked
    (stands-holds (mark_of store.journal) records file (ap length store.marked) kept.0) in
    (records, inl (subst (λ (f : List ℕ). JournalStands segments_mark records f) (sym (kept.1 image left)) stands), refl)

-- a crash leaves each of them
pub root_left : {D : Type 0} {g : _} (disks : DiskSpec D) (store : SegStore D g) (root : KeptRoot) (file image : List ℕ)
    → HasRoot disks.bytes disks.images store root → disks.bytes (segments_in store) ≡ Some file
    → disks.images (segments_in store) image → FileHas image root
root_left disks store root file image has told_is left =
    (kept_roots has.0, roots_left disks has.0 store file image has.1 told_is left, has.2)

-- its file keeps the trees, where it kept them before
pub opened_covered : {D : Type 0} {g : _} (spec : HostSpec) (disks : DiskSpec D) (dir : List ℕ) (directory : Directory D g)
    → IsOpened spec disks dir directory
    → StaysCovered spec disks dir directory.core.snapshot.entries directory.core.snapshot.covered (segments_in directory.store)
opened_covered spec disks dir directory opened = λ file is.
    let held = opened.segments.bytes ∙ is in
    let re = opened.reopened in
    elim (re.root file held) [
      | inl fault ↦ inl fault
      | inr rest ↦ elim rest [
        | inl none ↦ inr (inl none)
        | inr has ↦ inr (inr (λ image left.
            let later = re.segments_known file held in (
              root_of directory.core.snapshot.roots directory.core.snapshot.covered,
              root_left disks directory.store _ later.0 image has later.1 left,
              refl,
              re.core.snapshot.history.roots_stand,
            )))
      ]
    ]

module _ {I O : Type 0} (io : StreamSpec I O) (old mid : HostSpec) (streams : SameStreams old mid) where
  one_over : (name : List ℕ) (s : SessionOut I O) → IsOpenedFor mid io name s → IsOpenedFor old io name s
  one_over name s opened = record {
    source = record {
      left = opened.source.left ∙ streams.sources name;
      faults = opened.source.faults ∙ streams.source_faults name;
    };
    sink = record {
      contents = opened.sink.contents ∙ streams.sinks _;
      faults = opened.sink.faults ∙ streams.sink_faults _;
    };
  }

  each_over : (n : ℕ) (names : List (List ℕ)) (sessions : List (SessionOut I O))
      → EachOf (λ m name (s : SessionOut I O). IsOpenedFor mid io name s) n names sessions
      → EachOf (λ m name (s : SessionOut I O). IsOpenedFor old io name s) n names sessions
  each_over n [] [] each = tt
  each_over n [] (s ∷ ss) each = absurd each
  each_over n (x ∷ xs) [] each = absurd each
  each_over n (x ∷ xs) (s ∷ ss) each = (one_over x s each.0, each_over (n + 1) xs ss each.1)

  pub opened_over : (names : List (List ℕ)) (new : HostSpec) (sessions : List (SessionOut I O)) → HasOpened io names mid new sessions
      → HasOpened io names old new sessions
  opened_over names new sessions opened =
      record { each = each_over 0 names sessions opened.each; faults = opened.faults ∙ streams.faults }

-- ---- the log

-- a history has what it had up to an earlier t, also with an entry more
within_upto : (h before : List Entry) (r : ℕ) → IsLawful before → basis before ≡ r → upto h r ≡ before → r + 1 ≤ length h
within_upto h before r lawful start is =
    let whole : length (upto h r) ≡ r + 1 = omega (arith, ap length is, IsLawful-length before lawful, start) in
    omega (arith, length-take (r + 1) h, whole)

longer_upto : (h before more : List Entry) (r : ℕ) → IsLawful before → basis before ≡ r → upto h r ≡ before → upto (h ++ more) r ≡ before
longer_upto h before more r lawful start is =
    take-append-le (r + 1) h more (within_upto h before r lawful start is) ∙ is

module _ {D : Type 0} {g : _} (spec : HostSpec) (disks : DiskSpec D) (dir : List ℕ) (directory : Directory D g)
    (opened : IsOpened spec disks
    dir directory) (h : List Entry) (opening : ℕ)
    (recovered : opening ≡ directory.recovered) (within : opening ≤ basis h) (begins : upto h opening ≡ directory.core.snapshot.entries)
    (log : D) where
  abbrev before : List Entry
  before = directory.core.snapshot.entries

  lawful : IsLawful before
  lawful = opened.reopened.core.snapshot.history.lawful

  start : basis before ≡ opening
  start = sym opened.reopened.recovered ∙ sym recovered

  abbrev begun : D
  begun = disk_in directory.log

  -- where the host told, the disk tells as the log is opened
  told_then : (file : List ℕ) → spec.disks dir Log ≡ Some file → (later : List ℕ) × (disks.bytes begun ≡ Some later)
  told_then file is = opened.reopened.known file (opened.log.bytes ∙ is)

  unfailed : disks.faults begun ≡ spec.disk_faults dir Log
  unfailed = opened.reopened.unfailed ∙ opened.log.faults

  -- what a crash leaves since the host handed out the disk, if this is what it leaves since the log was opened
  any_moment : (l : List Entry) → opening ≤ basis l → upto l opening ≡ before
      → IfKnown (disks.bytes begun) (λ _. LeavesOnly disks.moment disks.images_since begun log (IsLogFrom opening l))
      → IfKnown (spec.disks dir Log) (λ _. (image : List ℕ) → disks.images_since log (spec.disk_moment dir Log) image
      → spec.disk_images dir Log image ⊎ IsLogFrom opening l image)
  any_moment l least is later = λ file told_is image since.
      let first = opened.reopened.any_moment file (opened.log.bytes ∙ told_is) in
      let then_told = told_then file told_is in
      let second = later then_told.0 then_told.1 in
      let here = subst (λ (t : ℕ). disks.images_since log t image) (sym opened.log.moment) since in
      let from : IsLogOf image before → IsLogFrom opening l image =
      λ stands. (opening, omega arith, least, subst (IsLogOf image) (sym is) stands) in
      ⊎_elim
      (λ (was : disks.images_since begun (disks.moment opened.disk) image). ⊎_elim
      (λ (left : disks.images opened.disk image). inl ((opened.log.images image).0 left))
      (λ (stands : IsLogOf image before). inr (from stands)) (first.each image was))
      (λ (stands : IsLogFrom opening l image). inr stands)
      (second.before (disks.moment opened.disk) image first.later here)

  pub log_holds : (torn : Option Draft) → LeavesLog disks directory.recovered begun h torn log
      → LogHolds spec disks dir h opening torn log
  log_holds None left =
      let kept : HasKept disks.bytes disks.images disks.faults disks.moment disks.images_since opening begun h log =
      subst (λ (r : ℕ). HasKept disks.bytes disks.images disks.faults disks.moment disks.images_since r begun h log) (sym recovered) left in
      record {
        stopped = tt;
        failed = λ some. absurd (cc);
        unfailed = λ _. kept.unfailed ∙ unfailed;
        at_end = λ file is image here.
            let later = told_then file is in inl (kept.left later.0 later.1 image here);
        any_moment = any_moment h within begins kept.any_moment;
      }
  log_holds (Some draft) left =
      let broken : HasBroken disks.bytes disks.images disks.faults disks.moment disks.images_since opening begun h (entry_of draft) log =
      subst (λ (r : ℕ). HasBroken disks.bytes disks.images disks.faults disks.moment disks.images_since r begun h (entry_of draft) log) (sym
      recovered) left.1 in
      let entry = entry_of draft in
      let least : opening ≤ basis (h ++ entry ∷ []) = omega (arith, within, basis-push h entry, next_t h entry left.0.lawful) in
      record {
        stopped = left.0;
        failed = λ _. subst (λ (n : ℕ). Rose n (disks.faults log)) unfailed broken.failed;
        unfailed = λ none. absurd (cc);
        at_end = λ file is image here. let later = told_then file is in broken.left later.0 later.1 image here;
        any_moment = any_moment (h ++ entry ∷ []) least (longer_upto h before (entry ∷ []) opening lawful start begins) broken.any_moment;
      }

  -- the file was the log of the history so far
  pub opening_is : IfKnown (spec.disks dir Log) (λ file. IsLogOf file (upto h opening))
  opening_is = λ file is.
      subst (IsLogOf file) (sym begins) (opened.reopened.history file (opened.log.bytes ∙ is))

module _ {I O D : Type 0} {g : _} (spec : HostSpec) (disks : DiskSpec D) (dir : List ℕ) (directory : Directory D g) (opened : IsOpened spec
    disks
    dir directory) (outcome : Outcome I O D)
    (h : List Entry) (goes_on : GoesOnFrom directory h outcome) where
  pub run_opens : IfKnown (spec.disks dir Log) (λ file. IsLogOf file (upto h outcome.recovered))
  run_opens =
      opening_is spec disks dir directory opened h outcome.recovered goes_on.recovered goes_on.within goes_on.opened (disk_in directory.log)

  pub run_log : HandsLogBack disks directory.recovered (disk_in directory.log) h outcome
      → IfSome outcome.log (LogHolds spec disks dir h outcome.recovered outcome.torn)
  run_log leaves =
      subst (λ (o : Option D). IfSome o (LogHolds spec disks dir h outcome.recovered outcome.torn)) (sym leaves.log_is)
      (log_holds spec disks dir directory opened h outcome.recovered goes_on.recovered goes_on.within goes_on.opened leaves.log outcome.torn
      leaves.left)

module _ {I O D : Type 0} {g : _} (spec : HostSpec) (disks : DiskSpec D) (dir : List ℕ) (directory : Directory D g) (opened : IsOpened spec
    disks
    dir directory) (outcome : Outcome I O D) where
  logs_by : (last : Option SnapshotModel) → IfSome last (λ l. GoesOnFrom directory l.entries outcome)
      → IfSome last (λ l. HandsLogBack disks directory.recovered (disk_in directory.log) l.entries outcome)
      → IfSome last (λ l. IfSome outcome.log (LogHolds spec disks dir l.entries outcome.recovered outcome.torn))
  logs_by None goes_on leaves = tt
  logs_by (Some l) goes_on leaves = run_log spec disks dir directory opened outcome l.entries goes_on leaves

  pub run_logs : IfSome outcome.last (λ l. GoesOnFrom directory l.entries outcome)
      → IfSome outcome.last (λ l. HandsLogBack disks directory.recovered (disk_in directory.log) l.entries outcome)
      → IfSome outcome.last (λ l. IfSome outcome.log (LogHolds spec disks dir l.entries outcome.recovered outcome.torn))
  run_logs goes_on leaves = logs_by outcome.last goes_on leaves
