use Rattle.std.proofs.Common.{◌∙◌, ◌++◌, [], ◌∷◌, ℕ, List, sym, subst}
use Rattle.std.proofs.lemmas.Result.{err_from_is_err_and, IfOk-weaker, IfErr-weaker, MatchResult-from_both}
use Rattle.disk_model.specs.Disk.{IfKnown}
use Rattle.log_model.specs.Log.{log_says}
use Rattle.disk_log.specs.Records.{IsBehind}
use Rattle.fb_recover.specs.Faults.{IsCause}
use Rattle.fb_recover.proofs.Causes.{reading-cause, records-cause, records-count}
use Rattle.fb_recover.proofs.records.history_of.Goals as goal

pub returns-in_err-next-clause-why_not : goal.returns-in_err-next-clause-why_not
returns-in_err-next-clause-why_not g c =
    let told = g.D.Disk.bytes in
    let follows = c.loop-payload.invariant.follows in
    let exit = err_from_is_err_and c.from_residual.result c.from_residual.ensures.1 in
    rw (exit.1)
    (λ disk has.
    let first = c.in_err-next.ensures.why_not disk follows.records (follows.reads disk has) in
    subst (λ fault. IfKnown (told disk) (IsCause fault)) (sym exit.2)
    (reading-cause (told disk) c.in_err-next.field-0.0 follows.records first.0))

pub returns-in_err-next-clause-any_moment : goal.returns-in_err-next-clause-any_moment
returns-in_err-next-clause-any_moment g c = λ disk has.
    let follows = c.loop-payload.invariant.follows in
    let first = c.in_err-next.ensures.why_not disk follows.records (follows.reads disk has) in
    first.1.any_moment

pub returns-in_err-found-clause-any_moment : goal.returns-in_err-found-clause-any_moment
returns-in_err-found-clause-any_moment g c = λ disk has.
    let follows = c.loop-payload.invariant.follows in
    let went = rw c.in-Some.is at c.in_ok-next.ensures.record in
    (went.1 disk follows.records (follows.reads disk has)).0.any_moment

pub loop-payload-preserved : goal.loop-payload-preserved
loop-payload-preserved g c =
    let follows = c.loop-payload.invariant.follows in
    let records : List (List ℕ) = follows.records in
    let went = rw c.in-Some.is at c.in_ok-next.ensures.record in
    let whole : List ℕ = went.0 in
    let here = went.1 c.requires.0 records (follows.reads c.requires.0 c.requires.1) in record {
      faults = c.in_ok-next.ensures.counted ∙ c.loop-payload.invariant.faults;
      follows = record {
        records = records ++ whole ∷ [];
        are = c.in_ok-found.ensures records whole follows.are
            (subst (λ (p : List ℕ). IsBehind records whole p c.in-Some.next) (sym c.deref.ensures.value) here.1);
        reads = λ disk has. (went.1 disk records (follows.reads disk has)).0;
      };
    }

pub returns-clause-read : goal.returns-clause-read
returns-clause-read g c =
    let follows = c.loop-payload.invariant.follows in
    let ended = rw c.in_default.is at c.in_ok-next.ensures.end in
    IfOk-weaker c.into_history.result _ _
    (λ h stands. λ disk has.
    (follows.records, ended disk follows.records (follows.reads disk has), stands follows.records follows.are))
    c.into_history.ensures.stands

pub returns-clause-why_not : goal.returns-clause-why_not
returns-clause-why_not g c =
    let follows = c.loop-payload.invariant.follows in
    let ended = rw c.in_default.is at c.in_ok-next.ensures.end in
    IfErr-weaker c.into_history.result _ _
    (λ fault tells. λ disk has.
    records-cause (g.D.Disk.bytes disk) follows.records fault (tells follows.records follows.are)
    (ended disk follows.records (follows.reads disk has)).stands)
    c.into_history.ensures.fault

pub returns-clause-counted : goal.returns-clause-counted
returns-clause-counted g c =
    let follows = c.loop-payload.invariant.follows in
    let same = c.in_ok-next.ensures.counted ∙ c.loop-payload.invariant.faults in
    MatchResult-from_both c.into_history.result _ _
    (IfOk-weaker c.into_history.result _ _ (λ h stands. same) c.into_history.ensures.stands)
    (IfErr-weaker c.into_history.result _ _
    (λ fault tells. records-count (log_says follows.records) fault _ _ (tells follows.records follows.are) same)
    c.into_history.ensures.fault)

pub returns-clause-any_moment : goal.returns-clause-any_moment
returns-clause-any_moment g c = λ disk has.
    let follows = c.loop-payload.invariant.follows in
    let ended = rw c.in_default.is at c.in_ok-next.ensures.end in
    (ended disk follows.records (follows.reads disk has)).read.any_moment
