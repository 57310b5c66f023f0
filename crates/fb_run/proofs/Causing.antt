-- What a run says, why, and what its scripts' names have to do with what was opened for them.
use Rattle.std.proofs.Common.{◌≡◌, ◌⊎◌, inl, inr, ℕ, Bool, true, false, List, [], ◌∷◌, map, length, Option, Some, None, zero, suc, refl}
use Rattle.std.proofs.Common.{sym, ap, ◌∙◌, subst, arith}
use Rattle.std.specs.Option.{option_map}
use Rattle.std.specs.Borrow.{Bor}
use Rattle.command_line.specs.Views.{names_in}
use Rattle.std.specs.Prelude.{◌==◌, ◌-◌, ◌<◌, ◌≤◌, get_or, take, drop, ◌&&◌, nat_lt, nat_le, IfOk, OnErr, Result, Ok, Err, IsSome, IfSome}
use Rattle.std.specs.Prelude.{string_bytes}
use Rattle.std.proofs.lemmas.Bool.{ltb-true, leb-true}
use Rattle.fb_ports.specs.Faults.{Rose}
use Rattle.fb_ports.specs.HostSpec.{HostSpec}
use Rattle.fb_values.specs.declared.facts.Entry.{Entry}
use Rattle.command_line.specs.Words.{Command, run, check, load, backup, scripts_of, are_scripts, are_apart, standard}
use Rattle.fb_session.specs.declared.outcome.SessionEnd.{SessionEnd}
use Rattle.fb_session.specs.declared.outcome.SessionEnd.TheVariants as ended
use Rattle.fb_session.specs.Terms.{Terms}
use Rattle.fb_session.specs.Replies.{SessionRun, Replies, SourceCount, SinkCount}
use Rattle.fb_run.specs.declared.outcome.SessionOut.{SessionOut}
use Rattle.fb_run.specs.declared.outcome.Outcome.{Outcome}
use Rattle.disk_model.specs.Disk.{IfKnown}
use Rattle.disk_log.specs.Logs.{disk_in}
use Rattle.fb_core.specs.declared.accepting.Draft.{Draft}
use Rattle.fb_recover.specs.Faults.{IsCause, CountsOpening, IsOfLog}
use Rattle.fb_recover.specs.declared.faults.OpenFault.{OpenFault}
use Rattle.fb_recover.specs.declared.faults.OpenFault.TheVariants as fault
use Rattle.fb_ports.specs.declared.hosts.Part.{Part}
use Rattle.fb_ports.specs.declared.hosts.Part.TheVariants.{Log, Segments}
use Rattle.seg_store.specs.Stores.{disk_in as segments_in}
use Rattle.merge_worker.specs.declared.ends.WorkEnd.{WorkEnd}
use Rattle.merge_worker.specs.declared.ends.WorkEnd.TheVariants.{Shut, StoreFault, Spent, Memory as NoMemory}
use Rattle.fb_run.specs.declared.merging.Trees.{Trees}
use Rattle.fb_run.specs.Merging.{CountsMerges}
use Rattle.fb_run.specs.declared.database.Disks.{Disks}
use Rattle.fb_run.specs.declared.database.Obstacle.{Obstacle}
use Rattle.fb_run.specs.declared.database.Obstacle.TheVariants as obstacle
use Rattle.fb_run.specs.declared.database.Unready.{Unready}
use Rattle.fb_run.specs.declared.opening.Unopened.TheVariants as unopened
use Rattle.fb_run.specs.declared.looking.Look.{Look}
use Rattle.fb_run.specs.Outside.{StreamSpec, DiskSpec, IsDiskOf, ports_of, OpensUpTo, run_of, setting_of, EachOf}
use Rattle.fb_run.specs.Jobs.{run_from}
use Rattle.fb_view.specs.SnapshotModel.{SnapshotModel}
use Rattle.fb_run.specs.Logs.{IsUnharmed, LogHolds}
use Rattle.fb_run.specs.Database.{why_unready, LeaveLogUnharmed, LeavesBehind, LeavesAllOrNone, IsObstacle, IsUnready}
use Rattle.fb_run.specs.Coverage.{StaysCovered}
use Rattle.fb_run.specs.Looking.{IsLook, HasPrinted}
use Rattle.fb_run.specs.Opening.{IsOpenedFor}
use Rattle.fb_run.specs.Headline.{EachReplies, stop_of}
use Rattle.fb_run.specs.Generated.{loads_of}
use Rattle.fb_run.specs.StatusLines.{Why, reported, usage, ended_early, console_failed, memory, usage_line, out_of_memory, status_of_end}
use Rattle.fb_run.specs.StatusLines.{line_of_end, first_early, why_of, why_not}
use Rattle.fb_run.specs.Causes.{HasDisks, NoSession, HasNoDisk, OutOfMemory, IsOutOfMemory, SaysWhy, Counts, IsRun, HaveRun, directory_of}
use Rattle.fb_run.specs.Causes.{names_of, HandsBack, IsCutShort, IsNotOpened, IsUntouched, IsUnfailed, TookWhole, TookPart, HasLooked, CauseOf}
use Rattle.fb_run.specs.Causes.{HasConsole, HasNoTarget, HasTargetBy, HasTargets, Causes}
use Rattle.fb_run.specs.Running.{RepliesBy, CountsBy, HaveEnded}
use Rattle.fb_run.proofs.Lists.{each_through, cut_first, names_cut}

-- ---- what is said

-- a line that was made is said, and else nothing
pub says_line : {X E : Type 0} (bytes : X → List ℕ) (r : Result X E) (n status : ℕ) (text line : List ℕ)
    → IfOk r (λ x. (status ≡ n) × (line ≡ bytes x)) → OnErr r ((status ≡ 9) × (line ≡ [])) → IfOk r (λ x. bytes x ≡ text)
    → ((status ≡ n) × (line ≡ text)) ⊎ OutOfMemory status line
says_line bytes (Ok x) n status text line said unsaid is = inl (said.0, said.1 ∙ is)
says_line bytes (Err e) n status text line said unsaid is = inr (unsaid.0, inr unsaid.1)

pub says_memory : (status : ℕ) (line : List ℕ) → ((status ≡ 9) × (line ≡ out_of_memory)) ⊎ OutOfMemory status line → OutOfMemory status line
says_memory status line (inl said) = (said.0, inl said.1)
says_memory status line (inr said) = said

-- how a session ended that was not done says why
pub says_end : (name : List ℕ) (how : SessionEnd) (status : ℕ) (line : List ℕ) → ((status ≡ status_of_end how) × (line ≡ line_of_end name
    how)) ⊎ OutOfMemory status line
    → SaysWhy (ended_early name how) status line
says_end name how status line said = said

-- ---- the first that ended early

pub first_done : (name : List ℕ) (names : List (List ℕ)) (how : SessionEnd) (ends : List SessionEnd) → how ≡ ended.Done
    → first_early (name ∷ names) (how ∷ ends) ≡ first_early names ends
first_done name names how ends done = ap (λ (h : SessionEnd). first_early (name ∷ names) (h ∷ ends)) done

early_none : (names : List (List ℕ)) → first_early names [] ≡ None
early_none [] = refl
early_none (name ∷ names) = refl

-- where no script is left, or no session, the log and the merges decide
pub says_nothing : {X S : Type 0} (name_of : X → List ℕ) (end_of : S → SessionEnd) (scripts : List X) (sessions : List S) (stop : Option ℕ)
    (end : WorkEnd)
    (status : ℕ) (line : List ℕ) → (length scripts < 1) ⊎ (length sessions < 1) → SaysWhy (why_of None stop end) status line
    → SaysWhy (why_of (first_early (map name_of scripts) (map end_of sessions)) stop end) status line
says_nothing name_of end_of [] sessions stop end status line few says = says
says_nothing name_of end_of (x ∷ xs) [] stop end status line few says = says
says_nothing name_of end_of (x ∷ xs) (s ∷ ss) stop end status line (inl few) says = absurd (omega (arith, few))
says_nothing name_of end_of (x ∷ xs) (s ∷ ss) stop end status line (inr few) says = absurd (omega (arith, few))

first_not_done : (name : List ℕ) (names : List (List ℕ)) (how : SessionEnd) (ends : List SessionEnd) → (how ≡ ended.Done → ⊥)
    → first_early (name ∷ names) (how ∷ ends) ≡ Some (name, how)
first_not_done name names ended.Done ends not = absurd (not refl)
first_not_done name names (ended.Script why) ends not = refl
first_not_done name names ended.TooLong ends not = refl
first_not_done name names ended.TooMany ends not = refl
first_not_done name names ended.ReadFault ends not = refl
first_not_done name names ended.WriteFault ends not = refl
first_not_done name names ended.Memory ends not = refl

module _ {S : Type 0} (end_of : S → SessionEnd) (scripts : List (Bor (List ℕ))) (d : Bor (List ℕ)) (sessions : List S) (s : S) (stop :
    Option ℕ) (end : WorkEnd) (status : ℕ)
    (line : List ℕ) (some_script : 1 ≤ length scripts) (some : 1 ≤ length sessions) (is : s ≡ get_or sessions 0 s) where
  abbrev others : List (List ℕ)
  others = names_in (take (length scripts - 1) (drop 1 scripts))

  abbrev ends : List SessionEnd
  ends = map end_of (take (length sessions - 1) (drop 1 sessions))

  cut : first_early (names_in scripts) (map end_of sessions) ≡ first_early ((get_or scripts 0 d).now ∷ others) (end_of s ∷ ends)
  cut =
      ap (λ (ns : List (List ℕ)). first_early ns (map end_of sessions)) (names_cut scripts d some_script)
      ∙ (ap (λ (es : List SessionEnd). first_early ((get_or scripts 0 d).now ∷ others) es) (ap (map end_of) (cut_first sessions s some))
      ∙ ap (λ (z : S). first_early ((get_or scripts 0 d).now ∷ others) (end_of z ∷ ends)) (sym is))

  -- the first session was done, so the rest decides
  pub says_rest : end_of s ≡ ended.Done → SaysWhy (why_of (first_early others ends) stop end) status line
      → SaysWhy (why_of (first_early (names_in scripts) (map end_of sessions)) stop end) status line
  says_rest done rest =
      subst (λ (e : Option (List ℕ × SessionEnd)). SaysWhy (why_of e stop end) status line) (sym (cut ∙ first_done (get_or scripts 0
      d).now
      others (end_of s) ends done)) rest

  -- it was not, so it decides
  pub says_first : (end_of s ≡ ended.Done → ⊥) → ((status ≡ status_of_end (end_of s)) × (line ≡ line_of_end (get_or scripts 0 d).now
      (end_of s))) ⊎ OutOfMemory status line
      → SaysWhy (why_of (first_early (names_in scripts) (map end_of sessions)) stop end) status line
  says_first not said =
      subst (λ (e : Option (List ℕ × SessionEnd)). SaysWhy (why_of e stop end) status line) (sym (cut ∙ first_not_done (get_or scripts
      0
      d).now others (end_of s) ends not)) said

-- what is said of the same is the same
pub says_same : (names others : List (List ℕ)) (ends those : List SessionEnd) (stop spec : Option ℕ) (end : WorkEnd) (status n : ℕ)
    (line text : List ℕ) → names ≡ others → ends ≡ those → stop ≡ spec → n ≡ status → text ≡ line
    → SaysWhy (why_of (first_early names ends) stop end) status line → SaysWhy (why_of (first_early others those) spec end) n text
says_same names others ends those stop spec end status n line text by_names by_ends by_stop by_status by_line says =
    rw (← by_names, ← by_ends, ← by_stop, by_status, by_line) says

-- ---- success

-- where merging ended for want of memory or of its store, the status is not 0
abbrev Fails : WorkEnd → Type 0
Fails Shut = ⊥
Fails StoreFault = Unit {0}
Fails Spent = ⊥
Fails NoMemory = Unit {0}

no_success : (stop : Option ℕ) (end : WorkEnd) (status : ℕ) (line : List ℕ) → Fails end → SaysWhy (why_of None stop end) status line
    → status ≡ 0 → ⊥
no_success None Shut status line fails says none = fails
no_success None StoreFault status line fails (inl says) none = omega (arith, says.0, none)
no_success None StoreFault status line fails (inr says) none = omega (arith, says.0, none)
no_success None Spent status line fails says none = fails
no_success None NoMemory status line fails (inl says) none = omega (arith, says.0, none)
no_success None NoMemory status line fails (inr says) none = omega (arith, says.0, none)
no_success (Some t) end status line fails (inl says) none = omega (arith, says.0, none)
no_success (Some t) end status line fails (inr says) none = omega (arith, says.0, none)

pub not_success : (names : List (List ℕ)) (ends : List SessionEnd) (stop : Option ℕ) (end : WorkEnd) (status : ℕ) (line : List ℕ)
    → Fails end → SaysWhy (why_of (first_early names ends) stop end) status line → status ≡ 0 → ⊥
not_success [] ends stop end status line fails says none = no_success stop end status line fails says none
not_success (name ∷ names) [] stop end status line fails says none = no_success stop end status line fails says none
not_success (name ∷ names) (ended.Done ∷ ends) stop end status line fails says none =
    not_success names ends stop end status line fails says none
not_success (name ∷ names) (ended.Script why ∷ ends) stop end status line fails (inl says) none = omega (arith, says.0, none)
not_success (name ∷ names) (ended.Script why ∷ ends) stop end status line fails (inr says) none = omega (arith, says.0, none)
not_success (name ∷ names) (ended.TooLong ∷ ends) stop end status line fails (inl says) none = omega (arith, says.0, none)
not_success (name ∷ names) (ended.TooLong ∷ ends) stop end status line fails (inr says) none = omega (arith, says.0, none)
not_success (name ∷ names) (ended.TooMany ∷ ends) stop end status line fails (inl says) none = omega (arith, says.0, none)
not_success (name ∷ names) (ended.TooMany ∷ ends) stop end status line fails (inr says) none = omega (arith, says.0, none)
not_success (name ∷ names) (ended.ReadFault ∷ ends) stop end status line fails (inl says) none = omega (arith, says.0, none)
not_success (name ∷ names) (ended.ReadFault ∷ ends) stop end status line fails (inr says) none = omega (arith, says.0, none)
not_success (name ∷ names) (ended.WriteFault ∷ ends) stop end status line fails (inl says) none = omega (arith, says.0, none)
not_success (name ∷ names) (ended.WriteFault ∷ ends) stop end status line fails (inr says) none = omega (arith, says.0, none)
not_success (name ∷ names) (ended.Memory ∷ ends) stop end status line fails (inl says) none = omega (arith, says.0, none)
not_success (name ∷ names) (ended.Memory ∷ ends) stop end status line fails (inr says) none = omega (arith, says.0, none)

-- where the status is 0, merging came to its end
pub success_is_merged : (end : WorkEnd) (names : List (List ℕ)) (ends : List SessionEnd) (stop : Option ℕ) (status : ℕ)
    (line : List ℕ) → SaysWhy (why_of (first_early names ends) stop end) status line → status ≡ 0 → (end ≡ Shut) ⊎ (end ≡ Spent)
success_is_merged Shut names hows stop status line says none = inl refl
success_is_merged StoreFault names hows stop status line says none =
    absurd (not_success names hows stop StoreFault status line tt says none)
success_is_merged Spent names hows stop status line says none = inr refl
success_is_merged NoMemory names hows stop status line says none = absurd (not_success names hows stop NoMemory status line tt says none)

-- where merging came to its end, no count rose
pub unfailed_well : (end : WorkEnd) (old new : ℕ) → (end ≡ Shut) ⊎ (end ≡ Spent) → CountsMerges end old new → new ≡ old
unfailed_well Shut old new well counted = counted
unfailed_well StoreFault old new (inl wrong) counted = absurd (cc)
unfailed_well StoreFault old new (inr wrong) counted = absurd (cc)
unfailed_well Spent old new well counted = counted
unfailed_well NoMemory old new (inl wrong) counted = absurd (cc)
unfailed_well NoMemory old new (inr wrong) counted = absurd (cc)

-- ---- names that are those of scripts

both : (a b : Bool) → (a && b) ≡ true → (a ≡ true) × (b ≡ true)
both true b e = (refl, e)
both false b e = absurd (cc)

pub few_scripts : (names : List (List ℕ)) → are_scripts names ≡ true → (0 < length names) × (length names ≤ 16) × (are_apart names ≡ true)
few_scripts names are =
    let one = both (nat_lt 0 (length names)) (nat_le (length names) 16 && are_apart names) are in let two = both (nat_le (length names) 16)
    (are_apart names) one.1 in
    (ltb-true 0 (length names) one.0, leb-true (length names) 16 two.0, two.1)

-- ---- from what was opened to what the host told

module _ {I O : Type 0} (terms : Terms) (spec : HostSpec) (io : StreamSpec I O) where
  reply_of : (h : List Entry) (stop : Option ℕ) (opening teller m : ℕ) (name : List ℕ) (old new : SessionOut I O) → IsOpenedFor spec io
      name old
      → Replies (setting_of terms h stop (teller == m)) opening (run_from io old.source old.sink new)
      → Replies (setting_of terms h stop (teller == m)) opening (run_of spec io name new)
  reply_of h stop opening teller m name old new opened reply =
      let P : Option (List ℕ) → Option (List ℕ) → SessionRun = λ held had. record {
        held = held;
        left = io.left new.source;
        had = had;
        has = io.contents new.sink;
        places = new.places;
        commits = new.commits;
        end = new.end;
      } in
      let Q : SessionRun → Type 0 = Replies (setting_of terms h stop (teller == m)) opening in
      subst (λ (had : Option (List ℕ)). Q (P (spec.sources name) had)) opened.sink.contents
      (subst (λ (held : Option (List ℕ)). Q (P held (io.contents old.sink))) opened.source.left reply)

  pub replies_told : (h : List Entry) (torn : Option Draft) (authors : List ℕ) (opening : ℕ) (names : List (List ℕ))
      (opened sessions : List (SessionOut I O))
      → EachOf (λ n name (s : SessionOut I O). IsOpenedFor spec io name s) 0 names opened
      → RepliesBy terms io opening torn authors opened sessions h → EachReplies terms spec io opening torn authors names sessions h
  replies_told h torn authors opening names opened sessions each replies = (
    replies.0,
    each_through (λ n name (s : SessionOut I O). IsOpenedFor spec io name s)
        (λ n (old new : SessionOut I O). Replies (setting_of terms h (stop_of torn) (replies.0 == n)) opening (run_from io old.source
        old.sink
        new))
        (λ n name (s : SessionOut I O). Replies (setting_of terms h (stop_of torn) (replies.0 == n)) opening (run_of spec io name s))
        (λ m name old new opened reply. reply_of h (stop_of torn) opening replies.0 m name old new opened reply) 0 names opened sessions
        each
        replies.1,
    replies.2,
  )

module _ {I O : Type 0} (spec : HostSpec) (io : StreamSpec I O) where
  counts_of : (name : List ℕ) (old new : SessionOut I O) → IsOpenedFor spec io name old → CountsBy io old new → Counts spec io
      name new
  counts_of name old new opened counts = record {
    source = subst (λ (n : ℕ). SourceCount new.end n (io.source_faults new.source)) opened.source.faults counts.source;
    sink = subst (λ (n : ℕ). SinkCount new.end n (io.sink_faults new.sink)) opened.sink.faults counts.sink;
  }

  pub counts_told : (names : List (List ℕ)) (opened sessions : List (SessionOut I O))
      → EachOf (λ n name (s : SessionOut I O). IsOpenedFor spec io name s) 0 names opened
      → EachOf (λ n (old new : SessionOut I O). CountsBy io old new) 0 opened sessions
      → EachOf (λ n name (s : SessionOut I O). Counts spec io name s) 0 names sessions
  counts_told names opened sessions each counts =
      each_through (λ n name (s : SessionOut I O). IsOpenedFor spec io name s) (λ n (old new : SessionOut I O). CountsBy io old new)
      (λ n name (s : SessionOut I O). Counts spec io name s) (λ m name old new opened counts. counts_of name old new opened counts) 0
      names opened sessions each counts

-- ---- causes

-- the log stopped where a transaction is torn, and then its count rose
module _ {I O D : Type 0} (spec : HostSpec) (disks : DiskSpec D) (outcome : Outcome I O D) (dir : List ℕ) where
  torn_by : (last : Option SnapshotModel) (log : Option D) → outcome.log ≡ log
      → IfSome last (λ l. IfSome log (LogHolds spec disks dir l.entries outcome.recovered outcome.torn)) → IsSome last → IsSome log
      → IsSome outcome.torn → (disk : D) × (outcome.log ≡ Some disk) × Rose (spec.disk_faults dir Log) (disks.faults disk)
  torn_by None log is holds there both torn = absurd (cc)
  torn_by (Some l) None is holds there both torn = absurd (cc)
  torn_by (Some l) (Some disk) is holds there both torn = (disk, is, holds.failed torn)

  pub counts_torn : IfSome outcome.last (λ l. IfSome outcome.log (LogHolds spec disks dir l.entries outcome.recovered outcome.torn))
      → IsSome outcome.last → IsSome outcome.log
      → IsSome outcome.torn → (disk : D) × (outcome.log ≡ Some disk) × Rose (spec.disk_faults dir Log) (disks.faults disk)
  counts_torn holds there both torn = torn_by outcome.last outcome.log refl holds there both torn

module _ {I O D : Type 0} (outcome : Outcome I O D) (none : outcome.console ≡ None) where
  pub console_why : (early : Option (List ℕ × SessionEnd)) (stop : Option ℕ) (end : WorkEnd)
      → HasConsole (why_of early stop end) outcome
  console_why (Some p) stop end = none
  console_why None (Some t) end = none
  console_why None None Shut = none
  console_why None None StoreFault = none
  console_why None None Spent = none
  console_why None None NoMemory = none

  console_not : (fault : OpenFault) → HasConsole (why_not fault) outcome
  console_not (fault.Disk part) = none
  console_not (fault.BadLog nth at) = none
  console_not (fault.Unlawful t law) = none
  console_not fault.Memory = none

  console_unready : (why : Obstacle) → HasConsole (why_unready why) outcome
  console_unready (obstacle.Unopened (unopened.CannotOpen name)) = none
  console_unready (obstacle.Unopened unopened.Memory) = none
  console_unready (obstacle.NotReopened fault) = console_not fault

-- no disk of a target is handed back
module _ {I O D : Type 0} (outcome : Outcome I O D) (none : HasNoTarget outcome) where
  pub targets_none : (why : Why) (command : Option Command) → HasTargetBy why outcome → HasTargets why command outcome
  targets_none why None by = none
  targets_none why (Some (run options directory scripts)) by = none
  targets_none why (Some (check directory)) by = none
  targets_none why (Some (load count)) by = none
  targets_none why (Some (backup from to)) by = by

  pub targets_why : (early : Option (List ℕ × SessionEnd)) (stop : Option ℕ) (end : WorkEnd)
      → HasTargetBy (why_of early stop end) outcome
  targets_why (Some p) stop end = none
  targets_why None (Some t) end = none
  targets_why None None Shut = none
  targets_why None None StoreFault = none
  targets_why None None Spent = none
  targets_why None None NoMemory = tt

  targets_not : (fault : OpenFault) → HasTargetBy (why_not fault) outcome
  targets_not (fault.Disk part) = none
  targets_not (fault.BadLog nth at) = none
  targets_not (fault.Unlawful t law) = none
  targets_not fault.Memory = tt

  targets_unready : (why : Obstacle) → HasTargetBy (why_unready why) outcome
  targets_unready (obstacle.Unopened (unopened.CannotOpen name)) = none
  targets_unready (obstacle.Unopened unopened.Memory) = tt
  targets_unready (obstacle.NotReopened fault) = targets_not fault

pub has_disks : {I O D : Type 0} (outcome : Outcome I O D) (log segments : D) → outcome.log ≡ Some log → outcome.segments ≡ Some segments
    → HasDisks outcome
has_disks outcome log segments log_is segments_is =
    record { log = subst IsSome (sym log_is) refl; segments = subst IsSome (sym segments_is) refl }

-- what is handed back are the disks that are left
module _ {I O D : Type 0} (outcome : Outcome I O D) (left : Option (Disks D))
    (log_is : outcome.log ≡ option_map (λ (d : Disks D). d.log) left)
    (segments_is : outcome.segments ≡ option_map (λ (d : Disks D). d.segments) left) where
  log_left : (both : Disks D) → left ≡ Some both → outcome.log ≡ Some both.log
  log_left both is = log_is ∙ ap (option_map (λ (d : Disks D). d.log)) is

  segments_left : (both : Disks D) → left ≡ Some both → outcome.segments ≡ Some both.segments
  segments_left both is = segments_is ∙ ap (option_map (λ (d : Disks D). d.segments)) is

  both_left : (l : Option (Disks D)) → left ≡ l → IsSome l → HasDisks outcome
  both_left None is some = absurd (cc)
  both_left (Some both) is some = has_disks outcome both.log both.segments (log_left both is) (segments_left both is)

  hands_back : (spec : HostSpec) (command : Command) (place : ℕ) → LeavesBehind spec (directory_of (Some command)) place left
      → HandsBack spec (Some command) place outcome
  hands_back spec command zero none = record {
    log = log_is ∙ ap (option_map (λ (d : Disks D). d.log)) none;
    segments = segments_is ∙ ap (option_map (λ (d : Disks D). d.segments)) none;
  }
  hands_back spec command (suc place) some = (both_left left refl some.0, some.1)

  cut_short : (spec new : HostSpec) (command : Command) → LeavesAllOrNone spec new (ports_of (Some command)) left
      → IsCutShort spec new (Some command) outcome
  cut_short spec new command (inl some) = inl (both_left left refl some)
  cut_short spec new command (inr nothing) = inr (hands_back spec command zero nothing.0, nothing.1)

module _ {I O D : Type 0} (spec : HostSpec) (io : StreamSpec I O) (disks : DiskSpec D) (new : HostSpec) (outcome : Outcome I O D) where
  cause_why : (command : Command) (early : Option (List ℕ × SessionEnd)) (torn : Option Draft) (end : WorkEnd) → outcome.torn ≡ torn
      → IfSome outcome.last (λ l. IfSome outcome.log (LogHolds spec disks (directory_of (Some command)) l.entries outcome.recovered
      outcome.torn))
      → (segments : D) → outcome.segments ≡ Some segments
      → CountsMerges end (spec.disk_faults (directory_of (Some command)) Segments) (disks.faults segments)
      → HaveRun spec io new.faults (Some command) outcome early → loads_of (Some command) ≡ []
      → CauseOf spec new io disks (Some command) outcome (why_of early (stop_of torn) end)
  cause_why command None None Shut is holds segments there counted ran scripts = (ran, is, (segments, there, counted), scripts)
  cause_why command None None StoreFault is holds segments there counted ran scripts = (ran, is, (segments, there, counted))
  cause_why command None None Spent is holds segments there counted ran scripts = (ran, is, (segments, there, counted), scripts)
  cause_why command None None NoMemory is holds segments there counted ran scripts = inr (ran, is)
  cause_why command None (Some draft) end is holds segments there counted ran scripts = (
    ran,
    ap stop_of is,
    counts_torn spec disks outcome (directory_of (Some command)) holds ran.last ran.disks.log (subst IsSome (sym is)
        refl),
  )
  cause_why command (Some p) torn end is holds segments there counted ran scripts = ran

  pub caused_by_memory : (command : Command) → NoSession outcome → IsCutShort spec new (Some command) outcome → outcome.console ≡ None
      → HasNoTarget outcome → IsOutOfMemory outcome → Causes spec new io disks (Some command) outcome
  caused_by_memory command none short no_console no_target refused = record {
    why = memory;
    says = inr refused;
    cause = inl (none, refl, short);
    console = no_console;
    targets = targets_none outcome no_target memory (Some command) tt;
  }

  -- whatever the words are
  pub caused_by_words : (command : Option Command) → new.faults ≡ spec.faults → OpensUpTo (ports_of command) zero spec new
      → NoSession outcome → HasNoDisk outcome → outcome.console ≡ None → HasNoTarget outcome → IsOutOfMemory outcome
      → Causes spec new io disks command outcome
  caused_by_words None same opens none no_disk no_console no_target refused = record {
    why = usage;
    says = inr refused;
    cause = (none, no_disk, refl, same);
    console = no_console;
    targets = no_target;
  }
  caused_by_words (Some command) same opens none no_disk no_console no_target refused =
      caused_by_memory command none (inr (no_disk, opens)) no_console no_target refused

  pub caused_by_usage : (command : Option Command) → None ≡ command → new.faults ≡ spec.faults → NoSession outcome → HasNoDisk outcome
      → outcome.console ≡ None → HasNoTarget outcome
      → ((outcome.status ≡ 1) × (string_bytes outcome.line ≡ usage_line)) ⊎ IsOutOfMemory outcome → Causes spec new io disks command
      outcome
  caused_by_usage command is same none no_disk no_console no_target said = record {
    why = usage;
    says = said;
    cause = (none, no_disk, sym is, same);
    console = no_console;
    targets = targets_none outcome no_target usage command no_target;
  }

  by_fault : (command : Command) (fault : OpenFault) (log segments : D) → outcome.log ≡ Some log → outcome.segments ≡ Some segments
      → IsNotOpened spec disks new.faults (Some command) outcome
      → IfKnown (spec.disks (directory_of (Some command)) Log) (IsCause fault)
      → CountsOpening fault Log (spec.disk_faults (directory_of (Some command)) Log) (disks.faults log)
      → CountsOpening fault Segments (spec.disk_faults (directory_of (Some command)) Segments) (disks.faults segments)
      → (IsOfLog fault → IsUntouched spec disks (Some command) outcome)
      → CauseOf spec new io disks (Some command) outcome (why_not fault)
  by_fault command (fault.Disk Log) log segments is there not_opened cause counted also untouched =
      (not_opened, untouched tt, (log, is, counted))
  by_fault command (fault.Disk Segments) log segments is there not_opened cause counted also untouched =
      (not_opened, cause, (segments, there, also))
  by_fault command (fault.BadLog nth at) log segments is there not_opened cause counted also untouched = (not_opened, untouched tt, cause)
  by_fault command (fault.Unlawful t law) log segments is there not_opened cause counted also untouched = (not_opened, untouched tt, cause)
  by_fault command fault.Memory log segments is there not_opened cause counted also untouched =
      inl (not_opened.none, refl, inl (has_disks outcome log segments is there))

  pub caused_by_sessions : {g : _} (command : Command) (opened : List (SessionOut I O)) (merge_at : ℕ) (begun : Trees D g)
      → EachOf (λ n name (s : SessionOut I O). IsOpenedFor spec io name s) 0 (scripts_of (Some command)) opened
      → IsRun (Some command) → loads_of (Some command) ≡ [] → outcome.loads.items ≡ [] → new.faults ≡ spec.faults → outcome.console ≡ None
      → HasNoTarget outcome
      → disks.faults (segments_in begun.store) ≡ spec.disk_faults (directory_of (Some command)) Segments
      → IfSome outcome.last (λ l. IfSome outcome.log (LogHolds spec disks (directory_of (Some command)) l.entries outcome.recovered
      outcome.torn))
      → (outcome.last ≡ None → HasDisks outcome)
      → (NoSession outcome × IsOutOfMemory outcome)
      ⊎ HaveEnded io disks merge_at (scripts_of (Some command)) opened begun outcome
      → Causes spec new io disks (Some command) outcome
  caused_by_sessions command opened merge_at begun has is_run scripts no_loads same no_console no_target unfailed holds both (inl none) =
      caused_by_memory command none.0 (inl (both none.0.last)) no_console no_target none.1
  caused_by_sessions command opened merge_at begun has is_run scripts no_loads same no_console no_target unfailed holds both (inr ran) =
      let early = first_early (scripts_of (Some command)) (map (λ (s : SessionOut I O). s.end) outcome.sessions.items) in
      let each = counts_told spec io (scripts_of (Some command)) opened outcome.sessions.items has ran.each in
      let ends = ran.ends in
      let counted : CountsMerges ends.end (spec.disk_faults (directory_of (Some command)) Segments) (disks.faults ends.segments) =
      subst (λ (n : ℕ). CountsMerges ends.end n (disks.faults ends.segments)) unfailed ends.trees.counts in
      record {
        why = why_of early (stop_of outcome.torn) ends.end;
        says = ends.says;
        cause = cause_why command early outcome.torn ends.end refl holds ends.segments ends.segments_is counted (record {
          is_run = is_run;
          host = same;
          each = each;
          loads = rw (scripts, no_loads) tt;
          first = rw (scripts, no_loads) refl;
          last = subst IsSome (sym ends.last_is) refl;
          authors = ran.authors;
          disks = ran.both;
        }) scripts;
        console = console_why outcome no_console early (stop_of outcome.torn) ends.end;
        targets = targets_none outcome no_target (why_of early (stop_of outcome.torn) ends.end) (Some command)
            (targets_why outcome no_target early (stop_of outcome.torn) ends.end);
      }

-- ---- a command that can't begin

module _ {I O D : Type 0} (spec new : HostSpec) (io : StreamSpec I O) (disks : DiskSpec D) (outcome : Outcome I O D) (command : Command)
    (none : NoSession outcome) (left : Option (Disks D))
    (log_is : outcome.log ≡ option_map (λ (d : Disks D). d.log) left)
    (segments_is : outcome.segments ≡ option_map (λ (d : Disks D). d.segments) left)
    (unharmed : IfSome left (LeaveLogUnharmed spec disks (directory_of (Some command)))) where
  cause_unready : (why : Obstacle)
      → IsObstacle spec new disks (ports_of (Some command)) (directory_of (Some command)) (names_of (Some command)) left why
      → CauseOf spec new io disks (Some command) outcome (why_unready why)
  cause_unready (obstacle.Unopened (unopened.CannotOpen name)) is = record {
    none = none;
    host = is.host;
    place = is.place;
    named = is.named;
    disks = hands_back outcome left log_is segments_is spec command is.place is.left_is;
    behind = is.behind;
  }
  cause_unready (obstacle.Unopened unopened.Memory) is =
      inl (none, refl, cut_short outcome left log_is segments_is spec new command is)
  cause_unready (obstacle.NotReopened fault) is =
      let both = is.1.both in
      let log = log_left outcome left log_is segments_is both is.1.is in
      let segments = segments_left outcome left log_is segments_is both is.1.is in
      let its = subst (λ (o : Option (Disks D)). IfSome o (LeaveLogUnharmed spec disks (directory_of (Some command)))) is.1.is unharmed in
      let not_opened : IsNotOpened spec disks new.faults (Some command) outcome = record {
        is_command = refl;
        none = none;
        host = is.0;
        segments = subst IsSome (sym segments) refl;
        log = both.log;
        log_is = log;
        unharmed = its;
      } in
      by_fault spec io disks new outcome command fault both.log both.segments log segments not_opened is.1.cause is.1.counted
      is.1.segments_counted
      (λ of. subst (λ (o : Option D). IfSome o (IsDiskOf spec disks (directory_of (Some command)) Segments)) (sym segments)
      (is.1.untouched of))

  -- what is handed back of the log is unharmed
  unharmed_by : (l : Option (Disks D)) → left ≡ l → IfSome l (LeaveLogUnharmed spec disks (directory_of (Some command)))
      → IfSome outcome.log (IsUnharmed spec disks (directory_of (Some command)))
  unharmed_by None is its =
      subst (λ (o : Option D). IfSome o (IsUnharmed spec disks (directory_of (Some command))))
      (sym (log_is ∙ ap (option_map (λ (d : Disks D). d.log)) is)) tt
  unharmed_by (Some both) is its =
      subst (λ (o : Option D). IfSome o (IsUnharmed spec disks (directory_of (Some command))))
      (sym (log_left outcome left log_is segments_is both is)) its

module _ {I O D : Type 0} (spec new : HostSpec) (io : StreamSpec I O) (disks : DiskSpec D) (outcome : Outcome I O D) (command : Command)
    (unready : Unready D)
    (is : IsUnready spec new disks (ports_of (Some command)) (directory_of (Some command)) (names_of (Some command)) unready)
    (none : NoSession outcome)
    (log_is : outcome.log ≡ option_map (λ (d : Disks D). d.log) unready.disks)
    (segments_is : outcome.segments ≡ option_map (λ (d : Disks D). d.segments) unready.disks) where
  pub caused_by_unready : outcome.console ≡ None → HasNoTarget outcome → SaysWhy (why_unready unready.why) outcome.status (string_bytes outcome.line)
      → Causes spec new io disks (Some command) outcome
  caused_by_unready no_console no_target said = record {
    why = why_unready unready.why;
    says = said;
    cause = cause_unready spec new io disks outcome command none unready.disks log_is segments_is is.unharmed unready.why is.why;
    console = console_unready outcome no_console unready.why;
    targets = targets_none outcome no_target (why_unready unready.why) (Some command) (targets_unready outcome no_target unready.why);
  }

  pub unready_unharmed : IfSome outcome.log (IsUnharmed spec disks (directory_of (Some command)))
  unready_unharmed =
      unharmed_by spec new io disks outcome command none unready.disks log_is segments_is is.unharmed unready.disks refl is.unharmed

-- ---- a look at a directory

module _ {I O D : Type 0} {g : _} (spec new : HostSpec) (io : StreamSpec I O) (disks : DiskSpec D) (outcome : Outcome I O D) (dir : List ℕ)
    (look : Look O D g) (is : IsLook spec new io disks dir look) (none : NoSession outcome)
    (log_is : outcome.log ≡ Some (disk_in look.directory.log)) (segments_is : outcome.segments ≡ Some (segments_in look.directory.store))
    (no_target : HasNoTarget outcome)
    (has : HasPrinted io.contents io.sink_faults (string_bytes look.answer.line) look.answer.console outcome) where
  look_unfailed : (part : Part) → IsUnfailed spec disks (Some (check dir)) outcome part
  look_unfailed Log = (disk_in look.directory.log, log_is, is.unfailed)
  look_unfailed Segments = (segments_in look.directory.store, segments_is, is.segments_unfailed)

  has_looked : (Took : List ℕ → Option (List ℕ) → Option (List ℕ) → ℕ → ℕ → Type 0)
      → Took (string_bytes look.answer.line) (io.contents look.answer.console) (io.contents has.now)
      (io.sink_faults look.answer.console) (io.sink_faults has.now)
      → HasLooked spec io disks new.faults (Some (check dir)) outcome Took
  has_looked Took took = record {
    directory = dir;
    is_check = refl;
    none = none;
    host = is.host;
    history = is.history;
    opening = is.opening;
    covered = is.covered;
    coverage = is.coverage;
    unfailed = look_unfailed;
    kept = subst (λ (o : Option D). IfSome o (StaysCovered spec disks dir is.history is.covered)) (sym segments_is) is.kept;
    console = has.now;
    console_is = has.console_is;
    took = subst (λ (l : List ℕ). Took l (spec.sinks standard) (io.contents has.now) (spec.sink_faults standard)
        (io.sink_faults has.now)) is.line
        (subst (λ (had : Option (List ℕ)). Took (string_bytes look.answer.line) had (io.contents has.now) (spec.sink_faults standard)
        (io.sink_faults has.now)) is.console.contents
        (subst (λ (n : ℕ). Took (string_bytes look.answer.line) (io.contents look.answer.console) (io.contents has.now) n
        (io.sink_faults has.now)) is.console.faults took));
  }

  pub caused_by_look : Causes spec new io disks (Some (check dir)) outcome
  caused_by_look =
      let there : IsSome outcome.console = subst IsSome (sym has.console_is) refl in
      elim has.took [
        | inl whole ↦ record {
          why = reported;
          says = whole.0;
          cause = inl (has_looked TookWhole whole.1);
          console = there;
          targets = no_target;
        }
        | inr part ↦ record {
          why = console_failed;
          says = part.0;
          cause = inl (has_looked TookPart part.1);
          console = there;
          targets = no_target;
        }
      ]

  pub look_unharmed : IfSome outcome.log (IsUnharmed spec disks dir)
  look_unharmed = subst (λ (o : Option D). IfSome o (IsUnharmed spec disks dir)) (sym log_is) is.unharmed
