-- The shapes of forms, then the rules on what they ask, then those on names, then those on changes.
use Rattle.std.proofs.Common.{◌≡◌, refl, sym, ap, ◌∙◌, subst, w64}
use Rattle.std.proofs.lemmas.Int.{to_z-of_z}
use Rattle.std.proofs.lemmas.Result.{IfOk-weaker, IfErr-weaker, err_from_is_err_and}
use Rattle.edn_form.specs.View.{form_of}
use Rattle.fb_model.specs.Facts.{facts}
use Rattle.tx_model.specs.Walk.{flat}
use Rattle.tx_model.specs.Step.{accepted}
use Rattle.tx_model.specs.Transaction.{transaction}
use Rattle.tx_asks.specs.Acts.{AreActs}
use Rattle.tx_rules.specs.Cas.{acts_of}
use Rattle.tx_step.specs.Outcomes.{Matches, IsSomeTransaction, judged_step}
use Rattle.tx_step.proofs.Steps as steps
use Rattle.tx_step.proofs.Tempids as tempids
use Rattle.tx_step.proofs.deciding.decide.Goals as goal

pub returns-in_err-forms-clause-refused : goal.returns-in_err-forms-clause-refused
returns-in_err-forms-clause-refused g c =
    let h = g.F.Facts.history c.args.facts.now in
    let bars = g.G.Guard.bars c.args.guard.now in
    let p = err_from_is_err_and c.from_residual.result c.from_residual.ensures.1 in
    rw (p.1, p.2)
    (steps.told_by_shapes h (form_of c.args.asked.now) c.args.reading bars c.in_err-forms.field-0.0 c.in_err-forms.ensures.refused)

pub returns-in_err-flat-clause-refused : goal.returns-in_err-flat-clause-refused
returns-in_err-flat-clause-refused g c =
    let h = g.F.Facts.history c.args.facts.now in
    let bars = g.G.Guard.bars c.args.guard.now in
    let read = c.in_ok-forms.ensures.parsed in
    let fs = read.0 in
    let stop = c.in_err-flat.field-0.0 in
    let shaped = steps.shaped h (form_of c.args.asked.now) fs c.args.reading bars read.1 read.2 in
    let p = err_from_is_err_and c.from_residual-in_err-flat.result c.from_residual-in_err-flat.ensures.1 in
    rw (p.1, p.2) (subst (Matches stop) (sym shaped)
    (steps.told_by_schema h fs c.args.reading bars c.args.schema.now c.in_ok-forms.forms.items stop c.in_err-flat.ensures.refused
    c.requires.stands read.3))

pub returns-in_err-acts-clause-refused : goal.returns-in_err-acts-clause-refused
returns-in_err-acts-clause-refused g c =
    let h = g.F.Facts.history c.args.facts.now in
    let bars = g.G.Guard.bars c.args.guard.now in
    let read = c.in_ok-forms.ensures.parsed in
    let fs = read.0 in
    let asks = c.in_ok-flat.ensures.asks h fs c.requires.stands read.3 in
    let unbroken = c.in_ok-flat.ensures.unbroken h fs c.requires.stands read.3 in
    let stop = c.in_err-acts.field-0.0 in
    let shaped = steps.shaped h (form_of c.args.asked.now) fs c.args.reading bars read.1 read.2 in
    let p = err_from_is_err_and c.from_residual-in_err-acts.result c.from_residual-in_err-acts.ensures.1 in
    rw (p.1, p.2) (subst (Matches stop) (sym shaped)
    (steps.told_by_names h fs c.args.reading bars unbroken stop (c.in_err-acts.ensures.refused (flat (facts h) fs) asks)))

pub judged-requires-clause-acts : goal.judged-requires-clause-acts
judged-requires-clause-acts g c =
    let h = g.F.Facts.history c.args.facts.now in
    let read = c.in_ok-forms.ensures.parsed in
    let fs = read.0 in
    let asks = c.in_ok-flat.ensures.asks h fs c.requires.stands read.3 in
    subst (λ list. IsSomeTransaction h (acts_of list)) (sym c.deref.ensures.value)
    (record {
      tx = transaction h fs;
      db_is = refl;
      acts_are = c.in_ok-acts.ensures.acts (flat (facts h) fs) asks;
      tempids_are = tempids.assigned h fs read.2;
    })

pub returns-clause-accepted : goal.returns-clause-accepted
returns-clause-accepted g c =
    let h = g.F.Facts.history c.args.facts.now in
    let bars = g.G.Guard.bars c.args.guard.now in
    let read = c.in_ok-forms.ensures.parsed in
    let fs = read.0 in
    let asks = c.in_ok-flat.ensures.asks h fs c.requires.stands read.3 in
    let acts = subst (λ list. AreActs (acts_of list) (transaction h fs)) (sym c.deref.ensures.value)
    (c.in_ok-acts.ensures.acts (flat (facts h) fs) asks) in
    let names = c.in_ok-acts.ensures.tempids (flat (facts h) fs) asks in
    let decided = steps.shaped h (form_of c.args.asked.now) fs c.args.reading bars read.1 read.2
    ∙ steps.judged_by_changes h fs c.args.reading bars (c.in_ok-flat.ensures.unbroken h fs c.requires.stands read.3)
    (c.in_ok-acts.ensures.unbroken (flat (facts h) fs) asks)
    ∙ ap (λ reading. judged_step h (transaction h fs) reading bars) (sym (to_z-of_z w64 c.args.reading c.ranges.reading)) in
    IfOk-weaker c.judged.result _ _
    (λ done of. subst (λ decision. decision ≡ accepted done.entry done.tempids.items) (sym decided)
    (of (transaction h fs) refl acts (tempids.assigned h fs read.2) names))
    c.judged.ensures.accepted

pub returns-clause-refused : goal.returns-clause-refused
returns-clause-refused g c =
    let h = g.F.Facts.history c.args.facts.now in
    let bars = g.G.Guard.bars c.args.guard.now in
    let read = c.in_ok-forms.ensures.parsed in
    let fs = read.0 in
    let asks = c.in_ok-flat.ensures.asks h fs c.requires.stands read.3 in
    let acts = subst (λ list. AreActs (acts_of list) (transaction h fs)) (sym c.deref.ensures.value)
    (c.in_ok-acts.ensures.acts (flat (facts h) fs) asks) in
    let names = c.in_ok-acts.ensures.tempids (flat (facts h) fs) asks in
    let decided = steps.shaped h (form_of c.args.asked.now) fs c.args.reading bars read.1 read.2
    ∙ steps.judged_by_changes h fs c.args.reading bars (c.in_ok-flat.ensures.unbroken h fs c.requires.stands read.3)
    (c.in_ok-acts.ensures.unbroken (flat (facts h) fs) asks)
    ∙ ap (λ reading. judged_step h (transaction h fs) reading bars) (sym (to_z-of_z w64 c.args.reading c.ranges.reading)) in
    IfErr-weaker c.judged.result _ _
    (λ stop of. subst (Matches stop) (sym decided) (of (transaction h fs) refl acts (tempids.assigned h fs read.2) names)) c.judged.ensures.refused
