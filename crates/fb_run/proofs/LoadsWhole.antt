-- The sessions of the generator are answered whole where nothing goes wrong.
use Rattle.std.proofs.Common.{◌≡◌, ◌⊎◌, inl, inr, ℕ, ◌≤◌, List, [], ◌++◌, map, length, Option, Some, None, refl, sym, ap, ◌∙◌, subst}
use Rattle.std.proofs.lemmas.List.{append-nil}
use Rattle.std.proofs.lemmas.Option.{none-some, some_pair_parts, IfSome_then}
use Rattle.std.specs.Prelude.{IfSome, IsSome, string_bytes}
use Rattle.std.specs.List.{AllByRecursion}
use Rattle.std.specs.Option.{unwrap_or}
use Rattle.fb_model.specs.History.{basis}
use Rattle.fb_model.specs.Lawful.{IsLawful}
use Rattle.fb_values.specs.declared.facts.Entry.{Entry}
use Rattle.fb_core.specs.declared.accepting.Draft.{Draft}
use Rattle.fb_ports.specs.HostSpec.{HostSpec}
use Rattle.fb_ports.specs.declared.hosts.Part.TheVariants.{Log, Segments}
use Rattle.fb_view.specs.SnapshotModel.{SnapshotModel}
use Rattle.command_line.specs.Words.{Command, load, greatest_load}
use Rattle.fb_session.specs.declared.outcome.SessionEnd.{SessionEnd}
use Rattle.fb_session.specs.declared.outcome.SessionEnd.TheVariants as ended
use Rattle.fb_session.specs.Terms.{Terms}
use Rattle.fb_run.specs.declared.outcome.SessionOut.{SessionOut}
use Rattle.fb_run.specs.declared.outcome.Outcome.{Outcome}
use Rattle.fb_run.specs.Outside.{StreamSpec, DiskSpec, EachOf}
use Rattle.fb_run.specs.Logs.{LogHolds}
use Rattle.fb_run.specs.Headline.{OneHistory, EachReplies}
use Rattle.fb_run.specs.Generated.{loads_of, generated, spec_in_memory, in_memory}
use Rattle.fb_run.specs.StatusLines.{Why, answered, reported, usage, unopened, disk_failed, bad_record, unlawful, ended_early}
use Rattle.fb_run.specs.StatusLines.{target_failed, bad_target, target_differs}
use Rattle.fb_run.specs.StatusLines.{console_failed, log_stopped, segments_failed, memory, status_of_end, line_of_end, first_early}
use Rattle.fb_run.specs.Causes.{Counts, HasDisks, IsOutOfMemory, SaysWhy, HaveRun, directory_of, CauseOf, Causes}
use Rattle.fb_run.specs.Complete.{HoldsFormsAlone, HoldsHistory, NoneRose, AnsweredWhole, Complete}
use Rattle.fb_run.proofs.Causing.{says_memory, counts_torn}
use Rattle.fb_run.proofs.Generators.{loads_hold}
use Rattle.fb_run.proofs.Completing.{IsWhole, all_well, nothing_beside, stands_behind, no_bad_record, no_unlawful}

module _ {I O D : Type 0} (terms : Terms) (spec : HostSpec) (io : StreamSpec I O) (disks : DiskSpec D) (new : HostSpec) (count : ℕ)
    (out : Outcome I O D)
    (log : HoldsHistory (spec.disks (directory_of (Some (load count))) Log))
    (holds : AllByRecursion (λ name. HoldsFormsAlone (generated (Some (load count)) name)) (loads_of (Some (load count))))
    (calm : NoneRose spec io disks new.faults (Some (load count)) out) where
  abbrev command : Option Command
  command = Some (load count)

  abbrev ours : HostSpec
  ours = spec_in_memory spec command

  abbrev names : List (List ℕ)
  names = loads_of command

  abbrev end_of : {J P : Type 0} → SessionOut J P → SessionEnd
  end_of s = s.end

  no_scripts : {early : Option (List ℕ × SessionEnd)} → HaveRun spec io new.faults command out early → out.sessions.items ≡ []
  no_scripts ran =
      nothing_beside {A = List ℕ} (λ n name (s : SessionOut I O). Counts spec io name s) 0 out.sessions.items ran.each

  first_of_loads : (early : Option (List ℕ × SessionEnd)) → HaveRun spec io new.faults command out early
      → first_early names (map end_of out.loads.items) ≡ early
  first_of_loads early ran =
      sym (ap (first_early names) (ap (λ (ss : List (SessionOut I O)). map end_of out.loads.items ++ map end_of ss) (no_scripts ran)
      ∙ append-nil (map end_of out.loads.items))) ∙ ran.first

  module _ (last : SnapshotModel) (kept : out.last ≡ Some last) (lawful : IsLawful last.entries) (seen : out.recovered ≤ basis last.entries)
      (replies : EachReplies terms ours in_memory out.recovered None (unwrap_or out.authors []) names out.loads.items last.entries) where
    ran_well : (early : Option (List ℕ × SessionEnd)) → HaveRun spec io new.faults command out early
        → ((early ≡ None) × EachOf (IsWhole terms ours in_memory last.entries out.recovered replies.0 lawful seen) 0 names out.loads.items)
        ⊎ ((name : List ℕ) × (early ≡ Some (name, ended.Memory)))
    ran_well early ran =
        all_well terms ours in_memory last.entries out.recovered replies.0 lawful seen 0 names out.loads.items early ran.loads replies.1
        holds calm.loads.sources calm.loads.sinks (first_of_loads early ran)

    loads_whole : out.status ≡ 0 → HaveRun spec io new.faults command out None → AnsweredWhole terms spec io command out
    loads_whole success ran = elim (ran_well None ran) [
      | inl well ↦ record { succeeded = success; last = last; kept = kept; each = rw (no_scripts ran) tt; loads = well.1 }
      | inr wrong ↦ absurd (none-some _ wrong.1)
    ]

    loads_refused : (name : List ℕ) (how : SessionEnd) → HaveRun spec io new.faults command out (Some (name, how))
        → ((out.status ≡ status_of_end how) × (string_bytes out.line ≡ line_of_end name how)) ⊎ IsOutOfMemory out → IsOutOfMemory out
    loads_refused name how ran (inl said) = elim (ran_well (Some (name, how)) ran) [
      | inl wrong ↦ absurd (none-some _ (sym wrong.0))
      | inr refused ↦
          let memory_it : how ≡ ended.Memory = (some_pair_parts name refused.0 how ended.Memory refused.1).1 in
          (said.0 ∙ ap status_of_end memory_it, inl (said.1 ∙ ap (line_of_end name) memory_it))
    ]
    loads_refused name how ran (inr said) = said

  module _ (lawful : IfSome out.last (λ last. IsLawful last.entries × (out.recovered ≤ basis last.entries)))
      (replies : IfSome out.last (λ last. EachReplies terms ours in_memory out.recovered out.torn
      (unwrap_or out.authors []) names out.loads.items
      last.entries))
      (stays : IfSome out.last (λ last. IfSome out.log (LogHolds spec disks (directory_of command) last.entries out.recovered out.torn)))
    where
      -- where the log's count did not rise, nothing is torn
      not_torn : (torn : Option Draft) → out.torn ≡ torn → IsSome out.last → HasDisks out → torn ≡ None
      not_torn None is there both = refl
      not_torn (Some draft) is there both =
          let rose = counts_torn spec disks out (directory_of command) stays there both.log (subst IsSome (sym is) refl) in
          absurd (calm.parts Log rose.0 rose.1 rose.2)

      unstopped : {early : Option (List ℕ × SessionEnd)} (h : List Entry) → HaveRun spec io new.faults command out early
          → EachReplies terms ours in_memory out.recovered out.torn (unwrap_or out.authors []) names out.loads.items h
          → EachReplies terms ours in_memory out.recovered None (unwrap_or out.authors []) names out.loads.items h
      unstopped h ran says =
          subst (λ (torn : Option Draft). EachReplies terms ours in_memory out.recovered torn
          (unwrap_or out.authors []) names out.loads.items h)
          (not_torn out.torn refl ran.last ran.disks) says

      whole_by : (last : Option SnapshotModel) → out.last ≡ last → IsSome last → out.status ≡ 0
          → HaveRun spec io new.faults command out None → AnsweredWhole terms spec io command out
      whole_by None is there success ran = absurd (cc)
      whole_by (Some l) is there success ran =
          let stands = rw is at lawful in let says = rw is at replies in
          loads_whole l is stands.0 stands.1 (unstopped l.entries ran says) success ran

      refused_by : (last : Option SnapshotModel) → out.last ≡ last → IsSome last → (name : List ℕ) (how : SessionEnd)
          → HaveRun spec io new.faults command out (Some (name, how))
          → ((out.status ≡ status_of_end how) × (string_bytes out.line ≡ line_of_end name how)) ⊎ IsOutOfMemory out → IsOutOfMemory out
      refused_by None is there name how ran said = absurd (cc)
      refused_by (Some l) is there name how ran said =
          let stands = rw is at lawful in let says = rw is at replies in
          loads_refused l is stands.0 stands.1 (unstopped l.entries ran says) name how ran said

      by_why : (why : Why) → SaysWhy why out.status (string_bytes out.line) → CauseOf spec new io disks command out why
          → AnsweredWhole terms spec io command out ⊎ IsOutOfMemory out
      by_why answered says cause = inl (whole_by out.last refl cause.0.last says.0 cause.0)
      by_why reported says (inl looked) = let wrong = looked.is_check in absurd (cc)
      by_why reported says (inr (inl loaded)) = inl (whole_by out.last refl loaded.ran.last says.0 loaded.ran)
      by_why reported says (inr (inr copied)) = let wrong = copied.begun.is_backup in absurd (cc)
      by_why usage says cause = absurd (none-some (load count) (sym cause.2))
      by_why (unopened name) says cause = absurd (calm.host cause.host)
      by_why (disk_failed part) says cause = absurd (calm.parts part cause.2.0 cause.2.1 cause.2.2)
      by_why (bad_record nth at) says cause = absurd (no_bad_record terms spec io disks new (load count) out log tt calm nth at cause.2)
      by_why (unlawful t law) says cause = absurd (no_unlawful terms spec io disks new (load count) out log tt calm t law cause.2)
      by_why (target_failed part) says cause = let wrong = cause.0.is_backup in absurd (cc)
      by_why (bad_target nth at) says cause = let wrong = cause.begun.is_backup in absurd (cc)
      by_why (target_differs t) says cause = let wrong = cause.begun.is_backup in absurd (cc)
      by_why (ended_early name how) says cause = inr (refused_by out.last refl cause.last name how cause says)
      by_why console_failed says (inl looked) = let wrong = looked.is_check in absurd (cc)
      by_why console_failed says (inr (inl loaded)) = absurd (calm.console loaded.console loaded.console_is loaded.took.failed)
      by_why console_failed says (inr (inr copied)) = let wrong = copied.begun.is_backup in absurd (cc)
      by_why (log_stopped t) says cause = absurd (calm.parts Log cause.2.0 cause.2.1 cause.2.2)
      by_why segments_failed says cause = absurd (calm.parts Segments cause.2.0 cause.2.1 cause.2.2)
      by_why memory says cause = inr (says_memory out.status (string_bytes out.line) says)

pub complete_load : {I O D : Type 0} (terms : Terms) (spec : HostSpec) (io : StreamSpec I O) (disks : DiskSpec D) (new : HostSpec)
    (count : ℕ) (out : Outcome I O D) (authors : List ℕ) (commits : List (List ℕ))
    → IfSome out.last (λ last. OneHistory last.entries out.recovered authors commits)
    → IfSome out.last (λ last. EachReplies terms (spec_in_memory spec (Some (load count))) in_memory out.recovered out.torn
    (unwrap_or out.authors []) (loads_of (Some (load count))) out.loads.items last.entries)
    → IfSome out.last (λ last. IfSome out.log (LogHolds spec disks (directory_of (Some (load count))) last.entries out.recovered out.torn))
    → Causes spec new io disks (Some (load count)) out → count ≤ greatest_load
    → Complete terms spec io disks new.faults (Some (load count)) out
complete_load terms spec io disks new count out authors commits history replies stays causes within =
    let lawful : IfSome out.last (λ last. IsLawful last.entries × (out.recovered ≤ basis last.entries)) =
    IfSome_then out.last history (λ last one. (
      one.lawful,
      stands_behind out.recovered (length authors) (basis last.entries) one.each_t,
    )) in
    λ log scripts calm.
    by_why terms spec io disks new count out log (loads_hold count within) calm lawful replies stays causes.why causes.says causes.cause
