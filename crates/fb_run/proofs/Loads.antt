-- The sessions of the generator: what they are handed, and why a run of them ends as it does.
use Rattle.std.proofs.Common.{◌≡◌, ◌⊎◌, inl, inr, ℕ, ◌+◌, List, [], ◌∷◌, ◌++◌, map, Option, Some, None, refl, sym, ap, ◌∙◌, subst, arith}
use Rattle.std.proofs.lemmas.List.{append-nil, map-append}
use Rattle.std.proofs.lemmas.List.FromFn.{map-range_with_len_more}
use Rattle.std.proofs.lemmas.Option.{IfSome_then}
use Rattle.std.specs.Option.{unwrap_or}
use Rattle.std.specs.Prelude.{IfSome, IsSome, string_bytes}
use Rattle.std.specs.List.{range_with_len, AllByRecursion}
use Rattle.std.specs.Str.Parse.{digits_value}
use Rattle.fb_model.specs.History.{basis}
use Rattle.talk_model.specs.Prefixes.{Prefixes}
use Rattle.fb_view.specs.SnapshotModel.{SnapshotModel}
use Rattle.fb_core.specs.declared.accepting.Draft.{Draft}
use Rattle.fb_ports.specs.HostSpec.{HostSpec}
use Rattle.mem_ports.specs.InMemory.{Supply, Store}
use Rattle.command_line.specs.Words.{Command, load, standard}
use Rattle.load_scripts.specs.Scripts.{script_of}
use Rattle.fb_session.specs.declared.outcome.SessionEnd.{SessionEnd}
use Rattle.fb_session.specs.declared.outcome.SessionEnd.TheVariants as ended
use Rattle.fb_session.specs.Terms.{Terms}
use Rattle.fb_run.specs.declared.outcome.SessionOut.{SessionOut}
use Rattle.fb_run.specs.declared.outcome.Outcome.{Outcome}
use Rattle.fb_run.specs.Outside.{StreamSpec, DiskSpec, IsSinkOf, EachOf}
use Rattle.fb_run.specs.Opening.{IsOpenedFor}
use Rattle.fb_run.specs.Headline.{OneHistory, EachReplies, stop_of}
use Rattle.fb_run.specs.Generated.{loads_of, spec_in_memory, in_memory}
use Rattle.fb_run.specs.Summary.{IsSummary}
use Rattle.fb_run.specs.Logs.{LogHolds}
use Rattle.fb_run.specs.StatusLines.{answered, reported, console_failed, memory, first_early, why_of}
use Rattle.fb_run.specs.Causes.{HasDisks, NoSession, IsOutOfMemory, SaysWhy, HaveRun, directory_of, IsUnfailed, TookWhole, TookPart, HasLoaded}
use Rattle.fb_run.specs.Causes.{CauseOf, HasNoTarget, Causes}
use Rattle.fb_run.specs.Looking.{HasPrinted}
use Rattle.fb_run.specs.Loading.{supply, room, AreGenerated, Left, left_of, Said, said_of, HasReported, SumsUp, SaysSame, HasSummedUp}
use Rattle.fb_run.specs.Loading.{SaysFurther}
use Rattle.fb_run.specs.Running.{RepliesBy, HaveEnded}
use Rattle.fb_run.specs.declared.merging.Trees.{Trees}
use Rattle.fb_run.specs.Merging.{CountsMerges}
use Rattle.seg_store.specs.Stores.{disk_in as segments_in}
use Rattle.merge_worker.specs.declared.ends.WorkEnd.{WorkEnd}
use Rattle.merge_worker.specs.declared.ends.WorkEnd.TheVariants.{Shut, StoreFault, Spent, Memory as NoMemory}
use Rattle.fb_ports.specs.declared.hosts.Part.TheVariants.{Segments}
use Rattle.fb_run.proofs.Causing.{replies_told, counts_told, counts_torn, caused_by_memory, console_why, success_is_merged, unfailed_well}

-- ---- what the sessions are handed

pub one_more : {S X : Type 0} (of : S → X) (f : ℕ → X) (k : ℕ) (was now : List S) (s : S) → now ≡ was ++ s ∷ [] → of s ≡ f k
    → map of was ≡ map f (range_with_len 0 k) → map of now ≡ map f (range_with_len 0 (k + 1))
one_more of f k was now s pushed is before =
    ap (map of) pushed ∙ map-append of was (s ∷ []) ∙ ap (λ xs. xs ++ of s ∷ []) before
    ∙ ap (λ x. map f (range_with_len 0 k) ++ x ∷ []) is ∙ sym (map-range_with_len_more f 0 k k (omega arith))

module _ (spec : HostSpec) (count : ℕ) where
  abbrev ours : HostSpec
  ours = spec_in_memory spec (Some (load count))

  one_opened : (name : List ℕ) (k : ℕ) (s : SessionOut Supply Store) → digits_value 10 name ≡ k → s.source ≡ supply count k
      → s.sink ≡ room k → IsOpenedFor ours in_memory name s
  one_opened name k s is source sink = record {
    source = record {
      left = ap (λ (x : Supply). Some x.left) source ∙ ap (λ n. Some (script_of n count)) (sym is);
      faults = ap (λ (x : Supply). x.calls.faults) source;
    };
    sink = record { contents = ap (λ (x : Store). Some x.bytes) sink; faults = ap (λ (x : Store). x.calls.faults) sink };
  }

  all_opened : (n : ℕ) (names : List (List ℕ)) (ks : List ℕ) (ss : List (SessionOut Supply Store)) → map (digits_value 10) names ≡ ks
      → map (λ s. s.source) ss ≡ map (supply count) ks → map (λ s. s.sink) ss ≡ map room ks
      → EachOf (λ m name s. IsOpenedFor ours in_memory name s) n names ss
  all_opened n [] [] [] is sources sinks = tt
  all_opened n [] [] (s ∷ ss) is sources sinks = absurd (cc)
  all_opened n [] (k ∷ ks) ss is sources sinks = absurd (cc)
  all_opened n (name ∷ names) [] ss is sources sinks = absurd (cc)
  all_opened n (name ∷ names) (k ∷ ks) [] is sources sinks = absurd (cc)
  all_opened n (name ∷ names) (k ∷ ks) (s ∷ ss) is sources sinks =
      let first : digits_value 10 name ≡ k = cc in
      let rest : map (digits_value 10) names ≡ ks = cc in
      let source : s.source ≡ supply count k = cc in
      let more_sources : map (λ (z : SessionOut Supply Store). z.source) ss ≡ map (supply count) ks = cc in
      let sink : s.sink ≡ room k = cc in
      let more_sinks : map (λ (z : SessionOut Supply Store). z.sink) ss ≡ map room ks = cc in
      (one_opened name k s first source sink, all_opened (n + 1) names ks ss rest more_sources more_sinks)

  pub opened_in_memory : (ss : List (SessionOut Supply Store)) → AreGenerated count ss
      → EachOf (λ m name s. IsOpenedFor ours in_memory name s) 0 (loads_of (Some (load count))) ss
  opened_in_memory ss made = all_opened 0 (loads_of (Some (load count))) (range_with_len 0 5) ss refl made.sources made.sinks

-- ---- what is said

pub has_reported : {I O D : Type 0} (contents : O → Option (List ℕ)) (faults : O → ℕ) (line : List ℕ) (was : O) (outcome : Outcome I O D)
    → HasPrinted contents faults line was outcome → HasReported contents faults line was (said_of outcome)
has_reported contents faults line was outcome spec =
    record { now = spec.now; console_is = spec.console_is; took = spec.took }

-- where the status is 0, no session ended early and the log did not stop
log_whole : (stop : Option ℕ) (end : WorkEnd) (status : ℕ) (line : List ℕ) → SaysWhy (why_of None stop end) status line
    → status ≡ 0 → stop ≡ None
log_whole None end status line says none = refl
log_whole (Some t) end status line (inl says) none = absurd (omega (arith, says.0, none))
log_whole (Some t) end status line (inr says) none = absurd (omega (arith, says.0, none))

pub success_whole : (names : List (List ℕ)) (ends : List SessionEnd) (stop : Option ℕ) (end : WorkEnd) (status : ℕ) (line : List ℕ)
    → SaysWhy (why_of (first_early names ends) stop end) status line → status ≡ 0 → (first_early names ends ≡ None) × (stop ≡ None)
success_whole [] ends stop end status line says none = (refl, log_whole stop end status line says none)
success_whole (name ∷ names) [] stop end status line says none = (refl, log_whole stop end status line says none)
success_whole (name ∷ names) (ended.Done ∷ ends) stop end status line says none =
    success_whole names ends stop end status line says none
success_whole (name ∷ names) (ended.Script why ∷ ends) stop end status line (inl says) none = absurd (omega (arith, says.0, none))
success_whole (name ∷ names) (ended.Script why ∷ ends) stop end status line (inr says) none = absurd (omega (arith, says.0, none))
success_whole (name ∷ names) (ended.TooLong ∷ ends) stop end status line (inl says) none = absurd (omega (arith, says.0, none))
success_whole (name ∷ names) (ended.TooLong ∷ ends) stop end status line (inr says) none = absurd (omega (arith, says.0, none))
success_whole (name ∷ names) (ended.TooMany ∷ ends) stop end status line (inl says) none = absurd (omega (arith, says.0, none))
success_whole (name ∷ names) (ended.TooMany ∷ ends) stop end status line (inr says) none = absurd (omega (arith, says.0, none))
success_whole (name ∷ names) (ended.ReadFault ∷ ends) stop end status line (inl says) none = absurd (omega (arith, says.0, none))
success_whole (name ∷ names) (ended.ReadFault ∷ ends) stop end status line (inr says) none = absurd (omega (arith, says.0, none))
success_whole (name ∷ names) (ended.WriteFault ∷ ends) stop end status line (inl says) none = absurd (omega (arith, says.0, none))
success_whole (name ∷ names) (ended.WriteFault ∷ ends) stop end status line (inr says) none = absurd (omega (arith, says.0, none))
success_whole (name ∷ names) (ended.Memory ∷ ends) stop end status line (inl says) none = absurd (omega (arith, says.0, none))
success_whole (name ∷ names) (ended.Memory ∷ ends) stop end status line (inr says) none = absurd (omega (arith, says.0, none))

nothing_there : {A : Type 0} (o : Option A) → o ≡ None → IsSome o → ⊥
nothing_there None is there = absurd (cc)
nothing_there (Some x) is there = absurd (cc)

not_torn : (torn : Option Draft) → stop_of torn ≡ None → torn ≡ None
not_torn None none = refl
not_torn (Some draft) none = absurd (cc)

-- ---- the outcome of the generator, from that of the run of its sessions

module _ {I O D : Type 0} (spec new : HostSpec) (io : StreamSpec I O) (disks : DiskSpec D) (count : ℕ) (ran : Outcome Supply Store D)
    (out : Outcome I O D) (left : left_of out ≡ left_of ran) (loads : out.loads.items ≡ ran.sessions.items)
    (none : out.sessions.items ≡ []) (no_target : HasNoTarget out) where
  abbrev command : Option Command
  command = Some (load count)

  abbrev generators : HostSpec
  generators = spec_in_memory spec command

  abbrev names : List (List ℕ)
  names = loads_of command

  abbrev end_of : SessionOut Supply Store → SessionEnd
  end_of s = s.end

  -- what holds of all that the run left holds of the outcome
  pub over : (P : Left D → Type 0) → P (left_of ran) → P (left_of out)
  over P holds = subst P (sym left) holds

  pub load_history : IfSome ran.last (λ last. OneHistory last.entries ran.recovered (unwrap_or ran.authors [])
      (map (λ (s : SessionOut Supply Store). s.commits) ran.sessions.items))
      → IfSome out.last (λ last. OneHistory last.entries out.recovered (unwrap_or out.authors [])
      (map (λ (s : SessionOut Supply Store). s.commits) out.loads.items))
  load_history holds =
      subst (λ ss. IfSome out.last (λ last. OneHistory last.entries out.recovered (unwrap_or out.authors [])
      (map (λ (s : SessionOut Supply Store). s.commits) ss))) (sym loads)
      (over (λ l. IfSome l.last (λ last. OneHistory last.entries l.recovered (unwrap_or l.authors [])
      (map (λ (s : SessionOut Supply Store). s.commits) ran.sessions.items))) holds)

  pub load_replies : (terms : Terms) (opened : List (SessionOut Supply Store))
      → EachOf (λ n name s. IsOpenedFor generators in_memory name s) 0 names opened
      → IfSome ran.last (λ last. RepliesBy terms in_memory ran.recovered ran.torn
      (unwrap_or ran.authors []) opened ran.sessions.items last.entries)
      → IfSome out.last (λ last. EachReplies terms generators in_memory out.recovered out.torn
      (unwrap_or out.authors []) names out.loads.items last.entries)
  load_replies terms opened each replies =
      subst (λ ss. IfSome out.last (λ last. EachReplies terms generators in_memory out.recovered out.torn
      (unwrap_or out.authors []) names ss last.entries))
      (sym loads)
      (over (λ l. IfSome l.last (λ last. EachReplies terms generators in_memory l.recovered l.torn
      (unwrap_or l.authors []) names ran.sessions.items
      last.entries))
      (IfSome_then ran.last replies (λ last r. replies_told terms generators in_memory last.entries _ _ _ names opened ran.sessions.items
      each
      r)))

  pub load_prefixes : IfSome ran.last (λ last. AllByRecursion
      (λ (s : SessionOut Supply Store). Prefixes ran.recovered (basis last.entries) s.places s.commits) ran.sessions.items)
      → IfSome out.last (λ last. AllByRecursion
      (λ (s : SessionOut Supply Store). Prefixes out.recovered (basis last.entries) s.places s.commits) out.loads.items)
  load_prefixes holds =
      subst (λ ss. IfSome out.last (λ last. AllByRecursion
      (λ (s : SessionOut Supply Store). Prefixes out.recovered (basis last.entries) s.places s.commits) ss)) (sym loads)
      (over (λ l. IfSome l.last (λ last. AllByRecursion
      (λ (s : SessionOut Supply Store). Prefixes l.recovered (basis last.entries) s.places s.commits) ran.sessions.items)) holds)

  succeeded : (contents : O → Option (List ℕ)) (faults : O → ℕ) (was : O)
      → SaysFurther contents faults ran.status (string_bytes ran.line) ran.last was (said_of out) → out.status ≡ 0 → ran.status ≡ 0
  succeeded contents faults was (inl says) success = sym (ap (λ (s : Said O). s.status) says.same) ∙ success
  succeeded contents faults was (inr says) success = says.success

  pub load_merged : (Merged : Option D → SnapshotModel → Type 0) (contents : O → Option (List ℕ)) (faults : O → ℕ) (was : O)
      → SaysFurther contents faults ran.status (string_bytes ran.line) ran.last was (said_of out)
      → IfSome ran.last (λ last. ran.status ≡ 0 → Merged ran.segments last)
      → IfSome out.last (λ last. out.status ≡ 0 → Merged out.segments last)
  load_merged Merged contents faults was says holds =
      over (λ l. IfSome l.last (λ last. out.status ≡ 0 → Merged l.segments last))
      (IfSome_then ran.last holds (λ last merged success. merged (succeeded contents faults was says success)))

  module _ {g : _} (merge_at : ℕ) (begun : Trees D g)
      (calm : disks.faults (segments_in begun.store) ≡ spec.disk_faults (directory_of command) Segments) where
    abbrev Ended : List (SessionOut Supply Store) → Type 0
    Ended opened = HaveEnded in_memory disks merge_at names opened begun ran

    -- what it says of how its sessions ran
    have_run : (early : Option (List ℕ × SessionEnd)) (opened : List (SessionOut Supply Store)) → new.faults ≡ spec.faults
        → EachOf (λ n name s. IsOpenedFor generators in_memory name s) 0 names opened
        → Ended opened → first_early names (map end_of ran.sessions.items) ≡ early
        → HaveRun spec io new.faults command out early
    have_run early opened same each ended first = record {
      is_run = tt;
      host = same;
      each = rw none tt;
      loads = rw loads (counts_told generators in_memory names opened ran.sessions.items each ended.each);
      first = rw (loads, none) (ap (first_early names) (append-nil (map end_of ran.sessions.items)) ∙ first);
      last = over (λ l. IsSome l.last) (subst IsSome (sym ended.ends.last_is) refl);
      authors = over (λ l. IsSome l.authors) ended.authors;
      disks = record { log = over (λ l. IsSome l.log) ended.both.log; segments = over (λ l. IsSome l.segments) ended.both.segments };
    }

    no_session : NoSession ran → NoSession out
    no_session nothing = record {
      sessions = none;
      loads = loads ∙ nothing.sessions;
      authors = over (λ l. l.authors ≡ None) nothing.authors;
      last = over (λ l. l.last ≡ None) nothing.last;
      torn = over (λ l. l.torn ≡ None) nothing.torn;
      recovered = over (λ l. l.recovered ≡ 0) nothing.recovered;
      covered = over (λ l. l.covered ≡ 0) nothing.covered;
    }

    -- what went wrong
    cause_wrong : (early : Option (List ℕ × SessionEnd)) (torn : Option Draft) (end : WorkEnd) → out.torn ≡ torn
        → IfSome out.last (λ l. IfSome out.log (LogHolds spec disks (directory_of command) l.entries out.recovered out.torn))
        → (segments : D) → out.segments ≡ Some segments
        → CountsMerges end (spec.disk_faults (directory_of command) Segments) (disks.faults segments)
        → HaveRun spec io new.faults command out early
        → (SaysWhy answered out.status (string_bytes out.line) → ⊥)
        → SaysWhy (why_of early (stop_of torn) end) out.status (string_bytes out.line)
        → CauseOf spec new io disks command out (why_of early (stop_of torn) end)
    cause_wrong None None Shut is holds segments there counted run wrong says = absurd (wrong says)
    cause_wrong None None StoreFault is holds segments there counted run wrong says = (run, is, (segments, there, counted))
    cause_wrong None None Spent is holds segments there counted run wrong says = absurd (wrong says)
    cause_wrong None None NoMemory is holds segments there counted run wrong says = inr (run, is)
    cause_wrong None (Some draft) end is holds segments there counted run wrong says = (
      run,
      ap stop_of is,
      counts_torn spec disks out (directory_of command) holds run.last run.disks.log (subst IsSome (sym is) refl),
    )
    cause_wrong (Some p) torn end is holds segments there counted run wrong says = run

    module _ (opened : List (SessionOut Supply Store)) (same : new.faults ≡ spec.faults)
        (each : EachOf (λ n name s. IsOpenedFor generators in_memory name s) 0 names opened)
        (was : O) (sink : IsSinkOf spec io standard was)
        (holds : IfSome out.last (λ l. IfSome out.log (LogHolds spec disks (directory_of command) l.entries out.recovered out.torn))) where
      wrong_says : Ended opened → SaysSame ran.status (string_bytes ran.line) ran.last (said_of out)
          → Causes spec new io disks command out
      wrong_says ended says =
          let early = first_early names (map end_of ran.sessions.items) in
          let e = ended.ends in
          let status : out.status ≡ ran.status = ap (λ (s : Said O). s.status) says.same in
          let line : string_bytes out.line ≡ string_bytes ran.line = ap (λ (s : Said O). s.line) says.same in
          let torn : out.torn ≡ ran.torn = ap (λ (l : Left D). l.torn) left in
          let its : SaysWhy (why_of early (stop_of out.torn) e.end) out.status (string_bytes out.line) = rw (status, line, torn) e.says in
          let there : IsSome ran.last = subst IsSome (sym e.last_is) refl in
          let counted : CountsMerges e.end (spec.disk_faults (directory_of command) Segments) (disks.faults e.segments) =
          subst (λ (n : ℕ). CountsMerges e.end n (disks.faults e.segments)) calm e.trees.counts in
          record {
            why = why_of early (stop_of out.torn) e.end;
            says = its;
            cause = cause_wrong early out.torn e.end refl holds e.segments (over (λ l. l.segments ≡ Some e.segments) e.segments_is) counted
                (have_run early opened same each ended refl)
                (λ said. nothing_there ran.last (says.failed (sym status ∙ said.0)) there) its;
            console = console_why out (ap (λ (s : Said O). s.console) says.same) early (stop_of out.torn) e.end;
            targets = no_target;
          }

      -- the line went out to the console
      loaded : IsUnfailed spec disks command out Segments
          → (k : SnapshotModel) (line : List ℕ) (now : O) (Took : List ℕ → Option (List ℕ) → Option (List ℕ) → ℕ → ℕ → Type 0)
          → HaveRun spec io new.faults command out None → out.torn ≡ None → out.last ≡ Some k → IsSummary k.entries line
          → out.console ≡ Some now → Took line (io.contents was) (io.contents now) (io.sink_faults was) (io.sink_faults now)
          → HasLoaded spec io disks new.faults command out Took
      loaded stays k line now Took run torn last_is summary console_is took = record {
        count = count;
        is_load = refl;
        ran = run;
        taken = torn;
        unfailed = stays;
        last = k;
        last_is = last_is;
        line = line;
        summary = summary;
        console = now;
        console_is = console_is;
        took = subst (λ (had : Option (List ℕ)). Took line had (io.contents now) (spec.sink_faults standard) (io.sink_faults now))
            sink.contents
            (subst (λ (n : ℕ). Took line (io.contents was) (io.contents now) n (io.sink_faults now)) sink.faults took);
      }

      sums_up : IsUnfailed spec disks command out Segments → HaveRun spec io new.faults command out None → out.torn ≡ None
          → (k : SnapshotModel) → out.last ≡ Some k
          → SumsUp io.contents io.sink_faults k.entries was (said_of out) → Causes spec new io disks command out
      sums_up stays run torn k last_is (inl refused) =
          record { why = memory; says = inr refused.0; cause = inr (run, torn); console = refused.1; targets = no_target }
      sums_up stays run torn k last_is (inr told_it) =
          let report = told_it.2 in
          let there : IsSome out.console = subst IsSome (sym report.console_is) refl in
          elim report.took [
            | inl whole ↦ record {
              why = reported;
              says = whole.0;
              cause = inr (inl (loaded stays k told_it.0 report.now TookWhole run torn last_is told_it.1 report.console_is whole.1));
              console = there;
              targets = no_target;
            }
            | inr part ↦ record {
              why = console_failed;
              says = part.0;
              cause = inr (inl (loaded stays k told_it.0 report.now TookPart run torn last_is told_it.1 report.console_is part.1));
              console = there;
              targets = no_target;
            }
          ]

      well_says : Ended opened
          → HasSummedUp io.contents io.sink_faults ran.status ran.last was (said_of out)
          → Causes spec new io disks command out
      well_says ended says =
          let e = ended.ends in
          let ends = map end_of ran.sessions.items in
          let whole = success_whole names ends (stop_of ran.torn) e.end ran.status (string_bytes ran.line) e.says says.success in
          let merged = success_is_merged e.end names ends (stop_of ran.torn) ran.status (string_bytes ran.line) e.says says.success in
          let stays : disks.faults e.segments ≡ spec.disk_faults (directory_of command) Segments =
          unfailed_well e.end _ _ merged e.trees.counts ∙ calm in
          sums_up (e.segments, over (λ l. l.segments ≡ Some e.segments) e.segments_is, stays) (have_run None opened same each ended whole.0)
          (over (λ l. l.torn ≡ None) (not_torn ran.torn whole.1)) says.kept (over (λ l. l.last ≡ Some says.kept) says.last_is) says.sums_up

      pub caused_by_load : (ran.last ≡ None → HasDisks ran) → (NoSession ran × IsOutOfMemory ran) ⊎ Ended opened
          → SaysFurther io.contents io.sink_faults ran.status (string_bytes ran.line) ran.last was (said_of out)
          → Causes spec new io disks command out
      caused_by_load both (inl nothing) (inl says) =
          let disks_left = both nothing.0.last in
          let short : HasDisks out = record {
            log = over (λ l. IsSome l.log) disks_left.log;
            segments = over (λ l. IsSome l.segments) disks_left.segments;
          } in
          let status : out.status ≡ ran.status = ap (λ (s : Said O). s.status) says.same in
          let line : string_bytes out.line ≡ string_bytes ran.line = ap (λ (s : Said O). s.line) says.same in
          let refused : IsOutOfMemory out = rw (status, line) nothing.1 in
          caused_by_memory spec io disks new out (load count) (no_session nothing.0) (inl short)
          (ap (λ (s : Said O). s.console) says.same) no_target refused
      caused_by_load both (inl nothing) (inr says) = absurd (omega (arith, nothing.1.0, says.success))
      caused_by_load both (inr ended) (inl says) = wrong_says ended says
      caused_by_load both (inr ended) (inr says) = well_says ended says

-- ---- where a list of sessions is empty

-- their teller is that of the others
pub nothing_replies : {I O J P : Type 0} (terms theirs : Terms) (spec others : HostSpec) (io : StreamSpec I O) (beside : StreamSpec J P)
    (opening : ℕ) (torn : Option Draft) (authors : List ℕ) (names : List (List ℕ)) (sessions : List (SessionOut I O))
    (talked : List (SessionOut J P)) → sessions ≡ [] → (last : Option SnapshotModel)
    → IfSome last (λ l. EachReplies theirs others beside opening torn authors names talked l.entries)
    → IfSome last (λ l. EachReplies terms spec io opening torn authors [] sessions l.entries)
nothing_replies terms theirs spec others io beside opening torn authors names sessions talked none None replies = tt
nothing_replies terms theirs spec others io beside opening torn authors names sessions talked none (Some l) replies =
    (replies.0, rw none tt, replies.2)

pub nothing_all : {S : Type 0} (P : SnapshotModel → S → Type 0) (sessions : List S) → sessions ≡ [] → (last : Option SnapshotModel)
    → IfSome last (λ l. AllByRecursion (P l) sessions)
nothing_all P sessions none None = tt
nothing_all P sessions none (Some l) = rw none tt

pub no_loads_history : {I O : Type 0} (last : Option SnapshotModel) (opening : ℕ) (authors : List ℕ) (loads : List (SessionOut I O))
    (commits : List (List ℕ)) → loads ≡ [] → IfSome last (λ l. OneHistory l.entries opening authors commits)
    → IfSome last (λ l. OneHistory l.entries opening authors (map (λ (s : SessionOut I O). s.commits) loads ++ commits))
no_loads_history {I} {O} last opening authors loads commits none holds =
    subst (λ cs. IfSome last (λ l. OneHistory l.entries opening authors cs))
    (sym (ap (λ ls. map (λ (s : SessionOut I O). s.commits) ls ++ commits) none)) holds

pub no_sessions_history : {I O : Type 0} (last : Option SnapshotModel) (opening : ℕ) (authors : List ℕ) (commits : List (List ℕ))
    (sessions : List (SessionOut I O)) → sessions ≡ [] → IfSome last (λ l. OneHistory l.entries opening authors commits)
    → IfSome last (λ l. OneHistory l.entries opening authors (commits ++ map (λ (s : SessionOut I O). s.commits) sessions))
no_sessions_history {I} {O} last opening authors commits sessions none holds =
    subst (λ cs. IfSome last (λ l. OneHistory l.entries opening authors cs))
    (sym (ap (λ ss. commits ++ map (λ (s : SessionOut I O). s.commits) ss) none ∙ append-nil commits)) holds
