use Rattle.std.proofs.Common.{◌∙◌, ◌++◌, [], ◌∷◌, ℕ, List, refl, sym, subst}
use Rattle.std.proofs.lemmas.Result.{err_from_is_err_and, IfOk-weaker, IfErr-weaker, MatchResult-from_both}
use Rattle.disk_model.specs.Disk.{IfKnown}
use Rattle.disk_log.specs.Records.{IsBehind}
use Rattle.fb_backup.specs.Backups.{IsBackupCause}
use Rattle.fb_backup.proofs.Causes.{reading-cause, records-cause, records-count}
use Rattle.fb_backup.proofs.reading.beginning_of.Goals as goal

pub loop-payload-init : goal.loop-payload-init
loop-payload-init g c = record {
  faults = refl;
  follows = record { records = []; are = c.none-compared.ensures c.args.entries.now c.requires.lawful; reads = λ disk has. has };
}

pub returns-in_err-next-clause-why_not : goal.returns-in_err-next-clause-why_not
returns-in_err-next-clause-why_not g c =
    let told = g.D.Disk.bytes in
    let h = c.args.entries.now in
    let follows = c.loop-payload.invariant.follows in
    let exit = err_from_is_err_and c.from_residual.result c.from_residual.ensures.1 in
    rw (exit.1)
    (λ disk has.
    let first = c.in_err-next.ensures.why_not disk follows.records (follows.reads disk has) in
    subst (λ fault. IfKnown (told disk) (IsBackupCause h fault)) (sym exit.2)
    (reading-cause (told disk) h follows.records c.in_err-next.field-0.0 first.0))

pub returns-in_err-next-clause-any_moment : goal.returns-in_err-next-clause-any_moment
returns-in_err-next-clause-any_moment g c = λ disk has.
    let follows = c.loop-payload.invariant.follows in
    let first = c.in_err-next.ensures.why_not disk follows.records (follows.reads disk has) in
    first.1.any_moment

pub returns-in_err-compared-clause-any_moment : goal.returns-in_err-compared-clause-any_moment
returns-in_err-compared-clause-any_moment g c = λ disk has.
    let follows = c.loop-payload.invariant.follows in
    let went = rw c.in-Some.is at c.in_ok-next.ensures.record in
    (went.1 disk follows.records (follows.reads disk has)).0.any_moment

pub loop-payload-preserved : goal.loop-payload-preserved
loop-payload-preserved g c =
    let follows = c.loop-payload.invariant.follows in
    let records : List (List ℕ) = follows.records in
    let went = rw c.in-Some.is at c.in_ok-next.ensures.record in
    let whole : List ℕ = went.0 in
    let here = went.1 c.requires.begun.0 records (follows.reads c.requires.begun.0 c.requires.begun.1) in record {
      faults = c.in_ok-next.ensures.counted ∙ c.loop-payload.invariant.faults;
      follows = record {
        records = records ++ whole ∷ [];
        are = c.in_ok-compared.ensures records whole follows.are
            (subst (λ (p : List ℕ). IsBehind records whole p c.in-Some.next) (sym c.deref.ensures.value) here.1);
        reads = λ disk has. (went.1 disk records (follows.reads disk has)).0;
      };
    }

pub returns-clause-read : goal.returns-clause-read
returns-clause-read g c =
    let follows = c.loop-payload.invariant.follows in
    let ended = rw c.in_default.is at c.in_ok-next.ensures.end in
    IfOk-weaker c.into_basis.result _ _
    (λ t stands. λ disk has.
    let is = stands c.args.entries.now follows.records follows.are in
    (follows.records, ended disk follows.records (follows.reads disk has), is.0, is.1))
    c.into_basis.ensures.stands

pub returns-clause-why_not : goal.returns-clause-why_not
returns-clause-why_not g c =
    let follows = c.loop-payload.invariant.follows in
    let ended = rw c.in_default.is at c.in_ok-next.ensures.end in
    IfErr-weaker c.into_basis.result _ _
    (λ fault says. λ disk has.
    records-cause (g.D.Disk.bytes disk) c.args.entries.now follows.records fault (says c.args.entries.now follows.records follows.are)
    (ended disk follows.records (follows.reads disk has)).stands)
    c.into_basis.ensures.fault

pub returns-clause-counted : goal.returns-clause-counted
returns-clause-counted g c =
    let follows = c.loop-payload.invariant.follows in
    let same = c.in_ok-next.ensures.counted ∙ c.loop-payload.invariant.faults in
    MatchResult-from_both c.into_basis.result _ _
    (IfOk-weaker c.into_basis.result _ _ (λ t stands. same) c.into_basis.ensures.stands)
    (IfErr-weaker c.into_basis.result _ _
    (λ fault says. records-count c.args.entries.now follows.records fault _ _ (says c.args.entries.now follows.records follows.are) same)
    c.into_basis.ensures.fault)

pub returns-clause-any_moment : goal.returns-clause-any_moment
returns-clause-any_moment g c = λ disk has.
    let follows = c.loop-payload.invariant.follows in
    let ended = rw c.in_default.is at c.in_ok-next.ensures.end in
    (ended disk follows.records (follows.reads disk has)).read.any_moment
