-- Scripts with nothing wrong are answered whole.
use Rattle.std.proofs.Common.{◌≡◌, ℕ, ◌+◌, ◌<◌, ◌≤◌, ◌⊎◌, Bool, false, List, [], ◌∷◌, ◌++◌, map, Option, Some, None, length, length-append}
use Rattle.std.proofs.Common.{refl, ap, ◌∙◌, sym, subst, inl, inr, arith, drop}
use Rattle.std.proofs.lemmas.List.{append-nil}
use Rattle.std.proofs.lemmas.Option.{none-some, some_pair_parts, IfSome_then}
use Rattle.std.specs.Prelude.{◌==◌, IfSome, IsSome, string_bytes}
use Rattle.std.specs.List.{AllByRecursion}
use Rattle.std.specs.Option.{unwrap_or}
use Rattle.std.specs.Io.KnownBytes.{prepend_known, append_known, IsAtEnd}
use Rattle.edn_model.specs.Form.{Form}
use Rattle.edn_model.specs.Faults.{Fault}
use Rattle.edn_core.specs.Answers.{fault_of}
use Rattle.fb_values.specs.declared.facts.Entry.{Entry}
use Rattle.fb_model.specs.History.{basis}
use Rattle.fb_model.specs.Lawful.{IsLawful}
use Rattle.fb_model.proofs.LawfulHistories.{IsLawful-length}
use Rattle.fb_core.specs.declared.accepting.Draft.{Draft}
use Rattle.fb_ports.specs.Faults.{Rose}
use Rattle.fb_ports.specs.HostSpec.{HostSpec}
use Rattle.fb_view.specs.SnapshotModel.{SnapshotModel}
use Rattle.command_line.specs.Words.{Command, run as runs, check, load, backup, scripts_of, sink_of}
use Rattle.command_line.specs.declared.commands.Options.{Options}
use Rattle.talk_model.specs.Script.{Ending, whole, fault, too_many, Script}
use Rattle.talk_model.proofs.OneScript.{OneReading, one_script}
use Rattle.talk_model.specs.Session.{Setting}
use Rattle.talk_model.specs.Talk.{forms_of}
use Rattle.fb_session.specs.declared.outcome.SessionEnd.{SessionEnd}
use Rattle.fb_session.specs.declared.outcome.SessionEnd.TheVariants as ended
use Rattle.fb_session.specs.Taken.{longest_script}
use Rattle.fb_session.specs.Terms.{Terms}
use Rattle.fb_session.specs.Replies.{Trace, AnswersAll, AnswersUpTo, SessionRun, Replies, SourceCount, SinkCount}
use Rattle.fb_session.proofs.LongerHistories.{replies_longer}
use Rattle.fb_run.specs.declared.outcome.SessionOut.{SessionOut}
use Rattle.fb_run.specs.declared.outcome.Outcome.{Outcome}
use Rattle.disk_model.specs.Disk.{IfKnown}
use Rattle.backup_model.specs.Backup.{Plan, appends, BackupSays, bad_target as bad_target_there, differs_at}
use Rattle.backup_model.proofs.CopiedLogs.{beginning_lacks}
use Rattle.backup_model.proofs.Plans.{one_plan}
use Rattle.log_model.specs.Log.{IsLogOf, LogSays, stands_for, bad_record as bad_record_there, unlawful as unlawful_there, FileSays}
use Rattle.log_model.proofs.LogFiles.{one_said, IsLogOf-says}
use Rattle.fb_ports.specs.declared.hosts.Part.TheVariants.{Log, Segments}
use Rattle.fb_run.specs.Outside.{StreamSpec, DiskSpec, run_of, setting_of, EachOf, EachWhile}
use Rattle.fb_run.specs.Logs.{LogHolds}
use Rattle.fb_run.specs.Headline.{OneHistory, EachReplies}
use Rattle.fb_run.specs.StatusLines.{Why, answered, reported, usage, unopened, disk_failed, bad_record, unlawful, ended_early}
use Rattle.fb_run.specs.StatusLines.{target_failed, bad_target, target_differs}
use Rattle.fb_run.specs.StatusLines.{console_failed, log_stopped, segments_failed, memory, status_of_end, line_of_end, first_early}
use Rattle.fb_run.specs.Generated.{loads_of, spec_in_memory, in_memory}
use Rattle.fb_run.specs.Causes.{HasDisks, IsOutOfMemory, SaysWhy, Counts, IsRun, HaveRun, directory_of, TargetSays, CauseOf, Causes}
use Rattle.fb_run.specs.Complete.{HoldsForms, HoldsFormsAlone, HoldsHistory, HoldsBeginning, NoneRose, EachHasItsLine, AnsweredWhole, Complete}
use Rattle.fb_run.proofs.Causing.{first_done, says_memory, counts_torn}

-- what was taken of a source that tells, up to its end, is what it held
taken_whole : (held left : Option (List ℕ)) (bytes script : List ℕ) → held ≡ Some bytes → held ≡ prepend_known script left → IsAtEnd left →
    script ≡ bytes
taken_whole held None bytes script spec taken at_end = let wrong = sym spec ∙ taken in cc
taken_whole held (Some xs) bytes script spec taken at_end =
    let one : Some (script ++ xs) ≡ Some bytes = sym taken ∙ spec in
    let same : script ++ xs ≡ bytes = cc in
    sym (append-nil script) ∙ ap (λ ys. script ++ ys) (sym at_end) ∙ same

-- it is no more than was held
taken_part : (held left : Option (List ℕ)) (bytes script : List ℕ) → held ≡ Some bytes → held ≡ prepend_known script left → longest_script
    < length script → longest_script < length bytes
taken_part held None bytes script spec taken long = let wrong = sym spec ∙ taken in absurd cc
taken_part held (Some xs) bytes script spec taken long =
    let one : Some (script ++ xs) ≡ Some bytes = sym taken ∙ spec in
    let same : script ++ xs ≡ bytes = cc in
    rw (← same) (omega (arith, long, length-append script xs))

same_reading : (held left : Option (List ℕ)) (script : List ℕ) (forms read : List Form) (ending : Ending) → HoldsForms held forms
    → held ≡ prepend_known script left → IsAtEnd left → Script script read ending → OneReading read forms ending whole
same_reading held left script forms read ending holds taken at_end stands =
    let same = taken_whole held left holds.script script holds.known taken at_end in
    let P : List ℕ → Type 0 = λ bytes. Script bytes read ending in
    one_script holds.script read forms ending whole (subst P same stands) holds.read

-- forms alone have no fault behind them
no_fault : (s : Setting) (opening : ℕ) (held left : Option (List ℕ)) (script : List ℕ) (trace : Trace) (forms : List Form) (why : Option
    (Fault × ℕ))
    → HoldsForms held forms → held ≡ prepend_known script left → IsAtEnd left → AnswersUpTo s opening script why trace → ⊥
no_fault s opening held left script trace forms None holds taken at_end answers = answers
no_fault s opening held left script trace forms (Some p) holds taken at_end answers =
    let wrong = (same_reading held left script forms (forms_of answers.exchanges) (fault p.0 p.1) holds taken at_end answers.read).endings
    in
    absurd cc

-- ---- one session

module _ (s : Setting) (opening : ℕ) (ran : SessionRun) (replies : Replies s opening ran) where
  -- it ended behind the last of its forms
  each_line : (forms : List Form) → HoldsForms ran.held forms → IsAtEnd ran.left
      → AnswersAll s opening replies.script whole (record { written = replies.written; places = ran.places; commits = ran.commits }) →
      EachHasItsLine s opening forms ran
  each_line forms holds at_end answers =
      record {
        exchanges = answers.exchanges;
        after = answers.after;
        talk = answers.talk;
        forms_are = sym (same_reading ran.held ran.left replies.script forms (forms_of answers.exchanges) whole holds replies.taken at_end
            answers.read).forms;
        places = ap (λ (t : Trace). t.places) answers.leaves;
        commits = ap (λ (t : Trace). t.commits) answers.leaves;
        gained = replies.gained ∙ ap (λ (t : Trace). append_known ran.had t.written) answers.leaves;
      }

  -- how a session ends whose source holds forms alone and where no count rose
  pub ends_well : (m k n j : ℕ) (forms : List Form) → HoldsForms ran.held forms → (how : SessionEnd) → ran.end ≡ how
      → SourceCount how m k → SinkCount how n j → ¬ Rose m k → ¬ Rose n j
      → ((how ≡ ended.Done) × ((fs : List Form) → HoldsForms ran.held fs → EachHasItsLine s opening fs ran)) ⊎ (how ≡ ended.Memory)
  ends_well m k n j forms holds ended.Done how source sink calm_source calm_sink =
      let all = rw how at replies.all in
      inl (refl, λ fs has. each_line fs has (all refl) (rw how at replies.answers))
  ends_well m k n j forms holds (ended.Script why) how source sink calm_source calm_sink =
      let all = rw how at replies.all in
      absurd (no_fault s opening ran.held ran.left replies.script _ forms (fault_of why) holds replies.taken (all refl) (rw how at
      replies.answers))
  ends_well m k n j forms holds ended.TooMany how source sink calm_source calm_sink =
      let all = rw how at replies.all in
      let answers = rw how at replies.answers in
      let wrong = (same_reading ran.held ran.left replies.script forms (forms_of answers.exchanges) too_many holds replies.taken (all refl)
      answers.read).endings in
      absurd cc
  ends_well m k n j forms holds ended.TooLong how source sink calm_source calm_sink =
      let long = taken_part ran.held ran.left holds.script replies.script holds.known replies.taken (replies.too_long.0 how) in
      absurd (omega (arith, long, holds.fits))
  ends_well m k n j forms holds ended.ReadFault how source sink calm_source calm_sink = absurd (calm_source source)
  ends_well m k n j forms holds ended.WriteFault how source sink calm_source calm_sink = absurd (calm_sink sink)
  ends_well m k n j forms holds ended.Memory how source sink calm_source calm_sink = inr refl

-- ---- all of them

module _ {I O : Type 0} (terms : Terms) (spec : HostSpec) (io : StreamSpec I O) (h : List Entry) (opening teller : ℕ) (lawful : IsLawful h)
    (seen
    : opening ≤ basis h) where
  abbrev pub IsWhole : ℕ → List ℕ → SessionOut I O → Type 0
  IsWhole n name s = (forms : List Form) → HoldsForms (spec.sources name) forms → EachHasItsLine (setting_of terms h None false) opening
      forms (run_of spec io name s)

  abbrev pub IsReplied : ℕ → List ℕ → SessionOut I O → Type 0
  IsReplied n name s = Replies (setting_of terms h None (teller == n)) opening (run_of spec io name s)

  -- where the log has not stopped nobody is its teller
  untold : (flag : Bool) (run : SessionRun) → Replies (setting_of terms h None flag) opening run → Replies (setting_of terms h None false)
      opening run
  untold flag run replies =
      let same : h ++ [] ≡ h = append-nil h in
      let least : basis h ≤ basis h = omega arith in
      let grows : basis h ≤ basis (h ++ []) = subst (λ (g : List Entry). basis h ≤ basis g) (sym same) least in
      subst (λ (g : List Entry). Replies (setting_of terms g None false) opening run) same
      (replies_longer (setting_of terms h None flag) [] None false (IsLawful-length h lawful) grows (inl refl) opening seen run replies)

  -- the first that ended early ended for want of memory, or none did
  pub all_well : (n : ℕ) (names : List (List ℕ)) (sessions : List (SessionOut I O)) (early : Option (List ℕ × SessionEnd))
      → EachOf (λ m name (s : SessionOut I O). Counts spec io name s) n names sessions → EachOf IsReplied n names sessions
      → AllByRecursion (λ name. HoldsFormsAlone (spec.sources name)) names
      → EachWhile (λ name (s : SessionOut I O). ¬ Rose (spec.source_faults name) (io.source_faults s.source)) names sessions
      → EachWhile (λ name (s : SessionOut I O). ¬ Rose (spec.sink_faults (sink_of name)) (io.sink_faults s.sink)) names sessions
      → first_early names (map (λ (s : SessionOut I O). s.end) sessions) ≡ early
      → ((early ≡ None) × EachOf IsWhole n names sessions) ⊎ ((name : List ℕ) × (early ≡ Some (name, ended.Memory)))
  all_well n [] [] early counts replies holds calm_sources calm_sinks first = inl (sym first, tt)
  all_well n [] (s ∷ ss) early counts replies holds calm_sources calm_sinks first = absurd counts
  all_well n (x ∷ xs) [] early counts replies holds calm_sources calm_sinks first = absurd counts
  all_well n (x ∷ xs) (s ∷ ss) early counts replies holds calm_sources calm_sinks first =
      let ours = untold (teller == n) (run_of spec io x s) replies.0 in
      elim (ends_well (setting_of terms h None false) opening (run_of spec io x s) ours
      (spec.source_faults x) (io.source_faults s.source) (spec.sink_faults (sink_of x)) (io.sink_faults s.sink) holds.0.0 holds.0.1
      s.end refl counts.0.source counts.0.sink calm_sources.0 calm_sinks.0) [
        | inl done ↦ elim (all_well (n + 1) xs ss early counts.1 replies.1 holds.1 calm_sources.1 calm_sinks.1
            (sym (first_done x xs s.end (map (λ (z : SessionOut I O). z.end) ss) done.0) ∙ first)) [
              | inl rest ↦ inl (rest.0, (done.1, rest.1))
              | inr rest ↦ inr rest
            ]
        | inr refused ↦ inr (
          x,
          sym first ∙ ap (λ (how : SessionEnd). first_early (x ∷ xs) (how ∷ map (λ (z : SessionOut I O). z.end) ss))
              refused,
        )
      ]

-- beside an empty list there is another
pub nothing_beside : {A B : Type 0} (P : ℕ → A → B → Type 0) (n : ℕ) (ys : List B) → EachOf P n [] ys → ys ≡ []
nothing_beside P n [] each = refl
nothing_beside P n (y ∷ ys) each = absurd each

pub stands_behind : (n m k : ℕ) → n + m ≡ k → n ≤ k
stands_behind n m k same = omega (arith, same)

-- ---- the run

module _ {I O D : Type 0} (terms : Terms) (spec : HostSpec) (io : StreamSpec I O) (disks : DiskSpec D) (new : ℕ) (command : Command)
    (outcome :
    Outcome
    I O D) (last : SnapshotModel)
    (lawful : IsLawful last.entries) (seen : outcome.recovered ≤ basis last.entries) (kept : outcome.last ≡ Some last)
    (replies : EachReplies terms spec io outcome.recovered None
    (unwrap_or outcome.authors []) (scripts_of (Some command)) outcome.sessions.items last.entries)
    (holds : AllByRecursion (λ name. HoldsFormsAlone (spec.sources name)) (scripts_of (Some command)))
    (calm : NoneRose spec io disks new (Some command) outcome) (scripts : loads_of (Some command) ≡ []) where
  no_loads : {early : Option (List ℕ × SessionEnd)} → HaveRun spec io new (Some command) outcome early → outcome.loads.items ≡ []
  no_loads ran =
      nothing_beside {A = List ℕ} (λ n name s. Counts (spec_in_memory spec (Some command)) in_memory name s) 0 outcome.loads.items
      (rw scripts at ran.loads)

  ran_well : (early : Option (List ℕ × SessionEnd)) → HaveRun spec io new (Some command) outcome early
      → ((early ≡ None) × EachOf (IsWhole terms spec io last.entries outcome.recovered replies.0 lawful seen) 0 (scripts_of (Some
      command)) outcome.sessions.items)
      ⊎ ((name : List ℕ) × (early ≡ Some (name, ended.Memory)))
  ran_well early ran =
      all_well terms spec io last.entries outcome.recovered replies.0 lawful seen 0 (scripts_of (Some command)) outcome.sessions.items
      early
      ran.each replies.1 holds calm.sessions.sources calm.sessions.sinks (rw (scripts, no_loads ran) at ran.first)

  pub answered_whole : outcome.status ≡ 0 → HaveRun spec io new (Some command) outcome None
      → AnsweredWhole terms spec io (Some command) outcome
  answered_whole success ran = elim (ran_well None ran) [
    | inl well ↦ record { succeeded = success; last = last; kept = kept; each = well.1; loads = rw (scripts, no_loads ran) tt }
    | inr wrong ↦ absurd (none-some _ wrong.1)
  ]

  early_memory : (name : List ℕ) (how : SessionEnd) → HaveRun spec io new (Some command) outcome (Some (name, how)) → how ≡ ended.Memory
  early_memory name how ran = elim (ran_well (Some (name, how)) ran) [
    | inl wrong ↦ absurd (none-some _ (sym wrong.0))
    | inr refused ↦ (some_pair_parts name refused.0 how ended.Memory refused.1).1
  ]

  pub refused : (name : List ℕ) (how : SessionEnd) → HaveRun spec io new (Some command) outcome (Some (name, how))
      → ((outcome.status ≡ status_of_end how) × (string_bytes outcome.line ≡ line_of_end name how)) ⊎ IsOutOfMemory outcome → IsOutOfMemory
      outcome
  refused name how ran (inl said) =
      let memory_it = early_memory name how ran in (said.0 ∙ ap status_of_end memory_it, inl (said.1 ∙ ap (line_of_end name) memory_it))
  refused name how ran (inr said) = said

-- the log of a history says nothing else
says_history : (held : Option (List ℕ)) (said : LogSays) → HoldsHistory held → IfKnown held (λ file. FileSays file said)
    → (h : List Entry) × (stands_for h ≡ said)
says_history held said holds says = (
  holds.history,
  one_said holds.file (stands_for holds.history) said (IsLogOf-says holds.file holds.history holds.is) (says holds.file
      holds.known),
)

module _ {I O D : Type 0} (terms : Terms) (spec : HostSpec) (io : StreamSpec I O) (disks : DiskSpec D) (new : HostSpec) (command : Command)
    (outcome :
    Outcome I O D)
    (log : HoldsHistory (spec.disks (directory_of (Some command)) Log))
    (holds : AllByRecursion (λ name. HoldsFormsAlone (spec.sources name)) (scripts_of (Some command)))
    (calm : NoneRose spec io disks new.faults (Some command) outcome) where
  pub no_bad_record : (nth at : ℕ)
      → IfKnown (spec.disks (directory_of (Some command)) Log) (λ file. FileSays file (bad_record_there nth at))
      → ⊥
  no_bad_record nth at says = let wrong = (says_history _ _ log says).1 in absurd (cc)

  pub no_unlawful : (t law : ℕ) → IfKnown (spec.disks (directory_of (Some command)) Log) (λ file. FileSays file (unlawful_there t law)) → ⊥
  no_unlawful t law says = let wrong = (says_history _ _ log says).1 in absurd (cc)

  -- a target has nothing wrong
  abbrev IsWell : Plan → Type 0
  IsWell plan = TargetSays spec disks new.faults (Some command) outcome plan → ⊥

  -- a look at a directory, or its backup, that has nothing wrong succeeds
  module _ (not : IsRun (Some command) → ⊥) (no_bad : (nth at : ℕ) → IsWell (bad_target_there nth at))
      (no_other : (t : ℕ) → IsWell (differs_at t)) where
    looked_by : (why : Why) → SaysWhy why outcome.status (string_bytes outcome.line)
        → CauseOf spec new io disks (Some command) outcome why → (outcome.status ≡ 0) ⊎ IsOutOfMemory outcome
    looked_by answered says cause = absurd (not cause.0.is_run)
    looked_by reported says cause = inl says.0
    looked_by usage says cause = absurd (none-some command (sym cause.2))
    looked_by (unopened name) says cause = absurd (calm.host cause.host)
    looked_by (disk_failed part) says cause = absurd (calm.parts part cause.2.0 cause.2.1 cause.2.2)
    looked_by (bad_record nth at) says cause = absurd (no_bad_record nth at cause.2)
    looked_by (unlawful t law) says cause = absurd (no_unlawful t law cause.2)
    looked_by (target_failed part) says cause = absurd (calm.targets part cause.2.0 cause.2.1 cause.2.2)
    looked_by (bad_target nth at) says cause = absurd (no_bad nth at cause)
    looked_by (target_differs t) says cause = absurd (no_other t cause)
    looked_by (ended_early name how) says cause = absurd (not cause.is_run)
    looked_by console_failed says (inl looked) = absurd (calm.console looked.console looked.console_is looked.took.failed)
    looked_by console_failed says (inr (inl loaded)) = absurd (calm.console loaded.console loaded.console_is loaded.took.failed)
    looked_by console_failed says (inr (inr copied)) = absurd (calm.console copied.console copied.console_is copied.took.failed)
    looked_by (log_stopped t) says cause = absurd (not cause.0.is_run)
    looked_by segments_failed says cause = absurd (not cause.0.is_run)
    looked_by memory says cause = inr (says_memory outcome.status (string_bytes outcome.line) says)

    pub complete_without_sessions : Causes spec new io disks (Some command) outcome → (outcome.status ≡ 0) ⊎ IsOutOfMemory outcome
    complete_without_sessions causes = looked_by causes.why causes.says causes.cause

  -- the sessions ran, so there is a history
  module _ (lawful : IfSome outcome.last (λ last. IsLawful last.entries × (outcome.recovered ≤ basis last.entries)))
      (replies : IfSome outcome.last (λ last. EachReplies terms spec io outcome.recovered outcome.torn
      (unwrap_or outcome.authors []) (scripts_of (Some
      command)) outcome.sessions.items last.entries))
      (kept : IfSome outcome.last (λ last. IfSome outcome.log (LogHolds spec disks (directory_of (Some command)) last.entries
      outcome.recovered outcome.torn))) (scripts : loads_of (Some command) ≡ []) where
    not_load : (count : ℕ) → Some command ≡ Some (load count) → ⊥
    not_load count is = let wrong = sym (ap loads_of is) ∙ scripts in absurd (cc)

    -- and where its log's count did not rise, nothing is torn
    not_torn : (torn : Option Draft) → outcome.torn ≡ torn → IsSome outcome.last → HasDisks outcome → torn ≡ None
    not_torn None is there both = refl
    not_torn (Some draft) is there both =
        let rose = counts_torn spec disks outcome (directory_of (Some command)) kept there both.log (subst IsSome (sym is) refl) in
        absurd (calm.parts Log rose.0 rose.1 rose.2)

    going : {early : Option (List ℕ × SessionEnd)} → HaveRun spec io new.faults (Some command) outcome early → outcome.torn ≡ None
    going ran = not_torn outcome.torn refl ran.last ran.disks

    unstopped : (h : List Entry) → outcome.torn ≡ None
        → EachReplies terms spec io outcome.recovered outcome.torn
        (unwrap_or outcome.authors []) (scripts_of (Some command)) outcome.sessions.items h
        → EachReplies terms spec io outcome.recovered None
        (unwrap_or outcome.authors []) (scripts_of (Some command)) outcome.sessions.items h
    unstopped h none says =
        subst (λ (torn : Option Draft). EachReplies terms spec io outcome.recovered torn
        (unwrap_or outcome.authors []) (scripts_of (Some command))
        outcome.sessions.items h) none says

    whole_by : (last : Option SnapshotModel) → outcome.last ≡ last → IsSome last → outcome.status ≡ 0
        → HaveRun spec io new.faults (Some command) outcome None → AnsweredWhole terms spec io (Some command) outcome
    whole_by None is there success ran = absurd (cc)
    whole_by (Some l) is there success ran =
        let stands = rw is at lawful in let says = rw is at replies in
        answered_whole terms spec io disks new.faults command outcome l stands.0 stands.1 is (unstopped l.entries (going ran) says) holds
        calm scripts success ran

    refused_by : (last : Option SnapshotModel) → outcome.last ≡ last → IsSome last → (name : List ℕ) (how : SessionEnd)
        → HaveRun spec io new.faults
        (Some command) outcome (Some (name, how))
        → ((outcome.status ≡ status_of_end how) × (string_bytes outcome.line ≡ line_of_end name how)) ⊎ IsOutOfMemory outcome →
        IsOutOfMemory outcome
    refused_by None is there name how ran said = absurd (cc)
    refused_by (Some l) is there name how ran said =
        let stands = rw is at lawful in let says = rw is at replies in
        refused terms spec io disks new.faults command outcome l stands.0 stands.1 is
        (unstopped l.entries (going ran) says) holds calm scripts name how
        ran said

    by_why : IsRun (Some command) → (why : Why) → SaysWhy why outcome.status (string_bytes outcome.line)
        → CauseOf spec new io disks (Some command) outcome why
        → AnsweredWhole terms spec io (Some command) outcome ⊎ IsOutOfMemory outcome
    by_why is_run answered says cause = inl (whole_by outcome.last refl cause.0.last says.0 cause.0)
    by_why is_run reported says (inl looked) = absurd (subst IsRun looked.is_check is_run)
    by_why is_run reported says (inr (inl loaded)) = absurd (not_load loaded.count loaded.is_load)
    by_why is_run reported says (inr (inr copied)) = absurd (subst IsRun copied.begun.is_backup is_run)
    by_why is_run usage says cause = absurd (none-some command (sym cause.2))
    by_why is_run (unopened name) says cause = absurd (calm.host cause.host)
    by_why is_run (disk_failed part) says cause = absurd (calm.parts part cause.2.0 cause.2.1 cause.2.2)
    by_why is_run (bad_record nth at) says cause = absurd (no_bad_record nth at cause.2)
    by_why is_run (unlawful t law) says cause = absurd (no_unlawful t law cause.2)
    by_why is_run (target_failed part) says cause = absurd (subst IsRun cause.0.is_backup is_run)
    by_why is_run (bad_target nth at) says cause = absurd (subst IsRun cause.begun.is_backup is_run)
    by_why is_run (target_differs t) says cause = absurd (subst IsRun cause.begun.is_backup is_run)
    by_why is_run (ended_early name how) says cause = inr (refused_by outcome.last refl cause.last name how cause says)
    by_why is_run console_failed says (inl looked) = absurd (subst IsRun looked.is_check is_run)
    by_why is_run console_failed says (inr (inl loaded)) = absurd (not_load loaded.count loaded.is_load)
    by_why is_run console_failed says (inr (inr copied)) = absurd (subst IsRun copied.begun.is_backup is_run)
    by_why is_run (log_stopped t) says cause = absurd (calm.parts Log cause.2.0 cause.2.1 cause.2.2)
    by_why is_run segments_failed says cause = absurd (calm.parts Segments cause.2.0 cause.2.1 cause.2.2)
    by_why is_run memory says cause = inr (says_memory outcome.status (string_bytes outcome.line) says)

    pub complete_run : IsRun (Some command) → Causes spec new io disks (Some command) outcome
        → AnsweredWhole terms spec io (Some command) outcome
        ⊎ IsOutOfMemory outcome
    complete_run is_run causes = by_why is_run causes.why causes.says causes.cause

pub complete_look : {I O D : Type 0} (terms : Terms) (spec : HostSpec) (io : StreamSpec I O) (disks : DiskSpec D) (new : HostSpec)
    (dir : List ℕ) (outcome : Outcome I O D)
    → Causes spec new io disks (Some (check dir)) outcome → Complete terms spec io disks new.faults (Some (check dir)) outcome
complete_look terms spec io disks new dir outcome causes =
    λ log holds calm. complete_without_sessions terms spec io disks new (check dir) outcome log holds calm (λ wrong. wrong)
    (λ nth at said. let wrong = said.begun.is_backup in cc) (λ t said. let wrong = said.begun.is_backup in cc) causes

-- ---- a backup

-- a log has one history
one_history : (file : List ℕ) (h other : List Entry) → IsLogOf file h → IsLogOf file other → h ≡ other
one_history file h other is also =
    let same : stands_for h ≡ stands_for other =
    one_said file (stands_for h) (stands_for other) (IsLogOf-says file h is) (IsLogOf-says file other also) in
    cc

module _ {I O D : Type 0} (spec : HostSpec) (disks : DiskSpec D) (new : ℕ) (from to : List ℕ) (outcome : Outcome I O D)
    (log : HoldsHistory (spec.disks from Log)) (begins : HoldsBeginning log.history (spec.disks to Log)) where
  -- the target's log has a beginning of the history, and says nothing else beside it
  no_other_plan : (plan : Plan) → TargetSays spec disks new (Some (backup from to)) outcome plan
      → appends (drop (begins.t + 1) log.history) ≡ plan
  no_other_plan plan said =
      let from_is : said.begun.from ≡ from = let is = said.begun.is_backup in cc in
      let to_is : said.begun.to ≡ to = let is = said.begun.is_backup in cc in
      let its : IsLogOf log.file said.begun.history =
      said.begun.opening log.file (ap (λ (dir : List ℕ). spec.disks dir Log) from_is ∙ log.known) in
      let same : said.begun.history ≡ log.history = one_history log.file said.begun.history log.history its log.is in
      let says : BackupSays begins.file said.begun.history plan =
      said.says begins.file (ap (λ (dir : List ℕ). spec.disks dir Log) to_is ∙ begins.known) in
      one_plan begins.file log.history (appends (drop (begins.t + 1) log.history)) plan
      (beginning_lacks begins.file log.history begins.t begins.is)
      (subst (λ (h : List Entry). BackupSays begins.file h plan) same says)

pub complete_backup : {I O D : Type 0} (terms : Terms) (spec : HostSpec) (io : StreamSpec I O) (disks : DiskSpec D) (new : HostSpec)
    (from to : List ℕ) (outcome : Outcome I O D)
    → Causes spec new io disks (Some (backup from to)) outcome → Complete terms spec io disks new.faults (Some (backup from to)) outcome
complete_backup terms spec io disks new from to outcome causes =
    λ log begins calm. complete_without_sessions terms spec io disks new (backup from to) outcome log tt calm (λ wrong. wrong)
    (λ nth at said. let wrong = no_other_plan spec disks new.faults from to outcome log begins (bad_target_there nth at) said in cc)
    (λ t said. let wrong = no_other_plan spec disks new.faults from to outcome log begins (differs_at t) said in cc) causes

pub complete_scripts : {I O D : Type 0} (terms : Terms) (spec : HostSpec) (io : StreamSpec I O) (disks : DiskSpec D) (new : HostSpec)
    (options : Options) (dir : List ℕ) (scripts : List (List ℕ)) (outcome : Outcome I O D) (authors : List ℕ) (commits : List (List ℕ))
    → IfSome outcome.last (λ last. OneHistory last.entries outcome.recovered authors commits)
    → IfSome outcome.last (λ last. EachReplies terms spec io outcome.recovered outcome.torn
    (unwrap_or outcome.authors []) scripts outcome.sessions.items
    last.entries)
    → IfSome outcome.last (λ last. IfSome outcome.log (LogHolds spec disks dir last.entries outcome.recovered outcome.torn))
    → Causes spec new io disks (Some (runs options dir scripts)) outcome
    → Complete terms spec io disks new.faults (Some (runs options dir scripts)) outcome
complete_scripts terms spec io disks new options dir scripts outcome authors commits history replies kept causes =
    let lawful : IfSome outcome.last (λ last. IsLawful last.entries × (outcome.recovered ≤ basis last.entries)) =
    IfSome_then outcome.last history (λ last one. (
      one.lawful,
      stands_behind outcome.recovered (length authors) (basis last.entries)
          one.each_t,
    )) in
    λ log holds calm. complete_run terms spec io disks new (runs options dir scripts) outcome log holds calm lawful replies kept
    refl tt causes

-- where memory is refused nothing is owed
pub complete_refused : {I O D : Type 0} (terms : Terms) (spec : HostSpec) (io : StreamSpec I O) (disks : DiskSpec D) (new : ℕ)
    (command : Option Command) (outcome : Outcome I O D) → IsOutOfMemory outcome → Complete terms spec io disks new command outcome
complete_refused terms spec io disks new None outcome said = tt
complete_refused terms spec io disks new (Some (runs options directory scripts)) outcome said = λ log holds calm. inr said
complete_refused terms spec io disks new (Some (check directory)) outcome said = λ log holds calm. inr said
complete_refused terms spec io disks new (Some (load count)) outcome said = λ log holds calm. inr said
complete_refused terms spec io disks new (Some (backup from to)) outcome said = λ log begins calm. inr said
