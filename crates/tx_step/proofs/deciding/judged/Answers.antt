-- The rules on changes, and then the guard.
use Rattle.std.proofs.Common.{sym, ap, ◌∙◌, subst, w64}
use Rattle.std.proofs.lemmas.Int.{to_z-of_z}
use Rattle.std.proofs.lemmas.Result.{IfOk-weaker, IfErr-weaker, err_from_is_err_and}
use Rattle.tx_model.specs.Step.{first_refusal, under_guard}
use Rattle.tx_rules.specs.Rules.{change_rules}
use Rattle.tx_step.specs.Outcomes.{Matches, refusal_or}
use Rattle.tx_step.proofs.Steps as steps
use Rattle.tx_step.proofs.deciding.judged.Goals as goal

pub returns-in_err-changes-clause-refused : goal.returns-in_err-changes-clause-refused
returns-in_err-changes-clause-refused g c =
    let h = g.F.Facts.history c.args.facts.now in
    let bars = g.G.Guard.bars c.args.guard.now in
    let stop = c.in_err-changes.field-0.0 in
    let p = err_from_is_err_and c.from_residual.result c.from_residual.ensures.1 in
    rw (p.1, p.2) (λ tx db_is acts_are tempids named.
    steps.told_by_changes (first_refusal (change_rules tx)) (under_guard h tx c.args.reading (bars h tx.changes)) stop
    (c.in_err-changes.ensures.refused tx db_is acts_are tempids))

pub returns-clause-accepted : goal.returns-clause-accepted
returns-clause-accepted g c =
    let h = g.F.Facts.history c.args.facts.now in
    let bars = g.G.Guard.bars c.args.guard.now in
    let read = to_z-of_z w64 c.args.reading c.ranges.reading in
    IfOk-weaker c.recorded.result _ _
    (λ done of tx db_is acts_are tempids named.
    ap (λ rule. refusal_or rule (under_guard h tx c.args.reading (bars h tx.changes))) (c.in_ok-changes.ensures.unbroken tx db_is acts_are tempids)
    ∙ ap (λ reading. under_guard h tx reading (bars h tx.changes)) (sym read)
    ∙ of tx db_is (c.in_ok-changes.ensures.changes tx db_is acts_are tempids) named)
    c.recorded.ensures.accepted

pub returns-clause-refused : goal.returns-clause-refused
returns-clause-refused g c =
    let h = g.F.Facts.history c.args.facts.now in
    let bars = g.G.Guard.bars c.args.guard.now in
    let read = to_z-of_z w64 c.args.reading c.ranges.reading in
    IfErr-weaker c.recorded.result _ _
    (λ stop of tx db_is acts_are tempids named.
    subst (Matches stop)
    (sym
    (ap (λ rule. refusal_or rule (under_guard h tx c.args.reading (bars h tx.changes))) (c.in_ok-changes.ensures.unbroken tx db_is acts_are tempids)
    ∙ ap (λ reading. under_guard h tx reading (bars h tx.changes)) (sym read)))
    (of tx db_is (c.in_ok-changes.ensures.changes tx db_is acts_are tempids) named))
    c.recorded.ensures.refused
