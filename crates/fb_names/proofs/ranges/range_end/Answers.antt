use Rattle.std.proofs.Common.{sym, ◌∙◌, subst, Option, Some, Result, Ok, Err}
use Rattle.std.proofs.lemmas.Result.{err_from_is_err_and}
use Rattle.edn_form.specs.View.{form_of}
use Rattle.fb_values.specs.declared.facts.Value.{Value}
use Rattle.fb_model.specs.Facts.{facts}
use Rattle.fb_db.specs.Seen.{window_of}
use Rattle.read_refusals.specs.declared.reasons.Refusal.{Refusal}
use Rattle.read_model.specs.Components.{value_given, end_given}
use Rattle.fb_names.specs.Answers.{IsGiven}
use Rattle.fb_names.proofs.Reading.{stopped, value_found, value_refused, end_is_value}
use Rattle.fb_names.proofs.ranges.range_end.Goals as goal

pub returns-in_err-value : goal.returns-in_err-value
returns-in_err-value g c =
    let h = c.args.db.now.snapshot.entries in
    let w = window_of c.args.db.now in
    let selects = g.S.Selector.selects c.args.db.now.filter in
    let f = form_of c.args.form.now in
    let same = end_is_value (facts h) c.args.kind f (sym c.is_nil.ensures ∙ c.if-is_nil.false) in
    let p = err_from_is_err_and c.from_residual.result c.from_residual.ensures.1 in
    rw (p.1, p.2) (stopped
    (λ (answer : Result Value Refusal). IsGiven h w selects c.args.at (value_given (facts h) (λ v. v) c.args.kind f) answer)
    (λ (answer : Result (Option Value) Refusal). IsGiven h w selects c.args.at (end_given (facts h) c.args.kind f) answer)
    (λ r refused. subst (λ given. IsGiven h w selects c.args.at given (Err r)) (sym same)
    (value_refused h w selects c.args.at (λ (v : Value). Some v) c.args.kind f r refused))
    c.in_err-value.field-0.0 c.in_err-value.ensures)

pub returns : goal.returns
returns g c =
    let h = c.args.db.now.snapshot.entries in
    let w = window_of c.args.db.now in
    let selects = g.S.Selector.selects c.args.db.now.filter in
    let f = form_of c.args.form.now in
    let same = end_is_value (facts h) c.args.kind f (sym c.is_nil.ensures ∙ c.if-is_nil.false) in
    subst (λ given. IsGiven h w selects c.args.at given (Ok (Some c.in_ok-value.field-0))) (sym same)
    (value_found h w selects c.args.at (λ (v : Value). Some v) c.args.kind f c.in_ok-value.field-0 c.in_ok-value.ensures)
