-- What a look at a directory begins with, and what becomes of its line.
use Rattle.std.proofs.Common.{◌≡◌, inl, inr, ℕ, List, [], ◌∷◌, Option, Some, sym, ap, ◌∙◌, subst}
use Rattle.fb_values.specs.declared.facts.Entry.{Entry}
use Rattle.command_line.specs.Words.{standard}
use Rattle.disk_log.specs.Logs.{disk_in}
use Rattle.seg_store.specs.Stores.{disk_in as segments_in}
use Rattle.fb_ports.specs.HostSpec.{HostSpec}
use Rattle.std.specs.Prelude.{Result, Ok, Err, IfOk, IfErr, OnOk, OnErr, MatchResult, string_bytes}
use Rattle.std.specs.Io.KnownBytes.{append_known}
use Rattle.fb_ports.specs.Faults.{Counts}
use Rattle.fb_session.specs.Written.{TakesPart}
use Rattle.fb_run.specs.declared.outcome.Outcome.{Outcome}
use Rattle.fb_run.specs.declared.database.Directory.{Directory}
use Rattle.fb_run.specs.declared.database.Unready.{Unready}
use Rattle.fb_run.specs.declared.looking.Look.{Look}
use Rattle.fb_run.specs.StatusLines.{reported, console_failed, history_line}
use Rattle.fb_run.specs.Outside.{StreamSpec, DiskSpec, OpensOnly, of_directory, of_sinks}
use Rattle.fb_run.specs.Opening.{OpensSink, HostRefuses}
use Rattle.fb_run.specs.Database.{SameStreams, IsOpened, LeaveLogUnharmed, IsUnready, disks_in}
use Rattle.fb_run.specs.Causes.{SaysWhy}
use Rattle.fb_run.specs.Looking.{IsLook, IsUnanswered, HasPrinted}
use Rattle.fb_run.specs.Coverage.{StaysCovered}
use Rattle.fb_run.proofs.Directories.{opened_unharmed, opened_history, opened_covered, unready_console}

pub has_told : {I O D E : Type 0} (contents : O → Option (List ℕ)) (faults : O → ℕ) (line sent : List ℕ) (was now : O)
    (outcome : Outcome I O D) (r : Result (Unit {0}) E) → sent ≡ line → outcome.console ≡ Some now
    → OnOk r (contents now ≡ append_known (contents was) sent) → OnErr r (TakesPart sent (contents was) (contents now))
    → Counts r (faults was) (faults now)
    → MatchResult r (λ _. SaysWhy reported outcome.status (string_bytes outcome.line))
    (λ _. SaysWhy console_failed outcome.status (string_bytes outcome.line))
    → HasPrinted contents faults line was outcome
has_told contents faults line sent was now outcome (Ok u) same is whole part counted said = record {
  now = now;
  console_is = is;
  took = inl (said, record { gained = whole ∙ ap (append_known (contents was)) same; unfailed = counted });
}
has_told contents faults line sent was now outcome (Err e) same is whole part counted said = record {
  now = now;
  console_is = is;
  took = inr (
    said,
    record { part = subst (λ (l : List ℕ). TakesPart l (contents was) (contents now)) same part; failed = counted },
  );
}

-- what a look begins with, in the words of what the host told before
module _ {I O D : Type 0} {g : _} (old mid new : HostSpec) (io : StreamSpec I O) (disks : DiskSpec D) (dir name : List ℕ)
    (directory : Directory D g) (opened : IsOpened old disks dir directory) (streams : SameStreams old mid) (standard_is : name ≡ standard)
  where
    abbrev h : List Entry
    h = directory.core.snapshot.entries

    look_of : (look : Look O D g) → look.directory ≡ directory
        → string_bytes look.answer.line ≡ history_line directory.recovered directory.core.snapshot.covered
        → OpensSink io name mid new look.answer.console → IsLook old new io disks dir look
    look_of look is line sink =
        let its = subst (λ (n : List ℕ). OpensSink io n mid new look.answer.console) standard_is sink in
        record {
          history = h;
          opening = λ file held. opened.reopened.history file (opened.log.bytes ∙ held);
          covered = directory.core.snapshot.covered;
          coverage = λ file held. opened.reopened.coverage file (opened.segments.bytes ∙ held);
          kept = subst (λ (d : Directory D g). StaysCovered old disks dir h directory.core.snapshot.covered (segments_in d.store)) (sym is)
              (opened_covered old disks dir directory opened);
          line = line ∙ ap (λ (m : ℕ). history_line m directory.core.snapshot.covered) opened.reopened.recovered;
          console = record {
            contents = its.is.contents ∙ streams.sinks standard;
            faults = its.is.faults ∙ streams.sink_faults standard;
          };
          host = its.faults ∙ streams.faults;
          unfailed = ap (λ (d : Directory D g). disks.faults (disk_in d.log)) is ∙ (opened.reopened.unfailed ∙ opened.log.faults);
          segments_unfailed = ap (λ (d : Directory D g). disks.faults (segments_in d.store)) is
              ∙ (opened.reopened.segments_unfailed ∙ opened.segments.faults);
          unharmed = subst (λ (d : Directory D g). LeaveLogUnharmed old disks dir (disks_in d)) (sym is)
              (opened_unharmed old disks dir directory opened);
        }

    pub is_look : {E : Type 0} (r : Result (Look O D g) E) → IfOk r (λ look. look.directory ≡ directory)
        → IfOk r (λ look. string_bytes look.answer.line ≡ history_line directory.recovered directory.core.snapshot.covered)
        → IfOk r (λ look. OpensSink io name mid new look.answer.console) → IfOk r (IsLook old new io disks dir)
    is_look (Ok look) is line sink = look_of look is line sink
    is_look (Err e) is line sink = tt

    pub is_unready : {T : Type 0} (r : Result T (Unready D)) → OpensOnly (of_directory dir) old mid
        → OpensOnly (of_sinks (name ∷ [])) mid new → IfErr r (IsUnanswered mid new name directory)
        → IfErr r (IsUnready old new disks (record (of_sinks (standard ∷ [])) { directories = dir ∷ [] }) dir (dir ∷ standard ∷ []))
    is_unready (Ok x) first only not = tt
    is_unready (Err unready) first only not =
        let its = subst (λ (n : List ℕ). HostRefuses n mid new not.why) standard_is not.not in
        let ours = subst (λ (n : List ℕ). OpensOnly (of_sinks (n ∷ [])) mid new) standard_is only in
        subst (λ (u : Unready D). IsUnready old new disks (record (of_sinks (standard ∷ [])) { directories = dir ∷ [] }) dir
        (dir ∷ standard ∷ []) u) (sym not.is)
        (unready_console disks dir old mid new (disks_in directory) streams.faults (opened_unharmed old disks dir directory opened)
        (opened_history old disks dir directory opened) first not.why ours its)
