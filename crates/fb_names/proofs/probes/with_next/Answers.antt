use Rattle.std.proofs.Common.{◌∙◌, subst, Some, Result, Ok, Err}
use Rattle.std.proofs.lemmas.Result.{err_from_is_err_and}
use Rattle.edn_form.specs.View.{form_of}
use Rattle.fb_values.specs.declared.facts.Value.{Value}
use Rattle.fb_values.specs.declared.indexes.Probe.{Probe}
use Rattle.fb_model.specs.Facts.{facts}
use Rattle.fb_model.specs.Schema.{Attribute}
use Rattle.fb_db.specs.Seen.{window_of}
use Rattle.read_refusals.specs.declared.reasons.Refusal.{Refusal}
use Rattle.read_model.specs.Components.{attribute_in, value_given, with_next}
use Rattle.fb_names.specs.Answers.{IsGiven}
use Rattle.fb_names.specs.Parts.{model_component}
use Rattle.fb_names.proofs.Reading.{stopped, typed_refused, value_found, value_refused}
use Rattle.fb_names.proofs.probes.with_next.Goals as goal

pub returns-in_err-a-in-Attribute : goal.returns-in_err-a-in-Attribute
returns-in_err-a-in-Attribute g c =
    let h = c.args.db.now.snapshot.entries in
    let w = window_of c.args.db.now in
    let selects = g.S.Selector.selects c.args.db.now.filter in
    let probe = c.args.probe in
    let p = err_from_is_err_and c.from_residual-in_err-a-in-Attribute.result c.from_residual-in_err-a-in-Attribute.ensures.1 in
    rw (p.1, p.2, c.in-Attribute.is)
    (typed_refused h w selects (λ (a : Attribute). record probe { a = Some a.id }) probe.order c.args.at
    (attribute_in (facts h) (form_of c.args.form.now)) c.in_err-a-in-Attribute.field-0.0
    (c.in_err-a-in-Attribute.ensures h (c.schema.ensures.schema ∙ c.schema.ensures.stands.schema_is)))

pub returns-in_err-v-in-Value : goal.returns-in_err-v-in-Value
returns-in_err-v-in-Value g c =
    let h = c.args.db.now.snapshot.entries in
    let w = window_of c.args.db.now in
    let selects = g.S.Selector.selects c.args.db.now.filter in
    let probe = c.args.probe in
    let f = form_of c.args.form.now in
    let kind = c.kind_behind-kind.ensures h (c.schema-in-Value.ensures.schema ∙ c.schema-in-Value.ensures.stands.schema_is) in
    let p = err_from_is_err_and c.from_residual-in_err-v-in-Value.result c.from_residual-in_err-v-in-Value.ensures.1 in
    rw (p.1, p.2) (stopped
    (λ (answer : Result Value Refusal). IsGiven h w selects c.args.at (value_given (facts h) (λ v. v) c.kind_behind-kind.result f) answer)
    (λ (answer : Result Probe Refusal). IsGiven h w selects c.args.at (with_next (facts h) probe (model_component c.args.part) f) answer)
    (λ r refused.
    rw c.in-Value.is (subst (λ k. IsGiven h w selects c.args.at (value_given (facts h) (λ v. record probe { v = Some v }) k f) (Err r)) kind
    (value_refused h w selects c.args.at (λ (v : Value). record probe { v = Some v }) c.kind_behind-kind.result f r refused)))
    c.in_err-v-in-Value.field-0.0 c.in_err-v-in-Value.ensures)

pub returns-in_ok-v-in-Value : goal.returns-in_ok-v-in-Value
returns-in_ok-v-in-Value g c =
    let h = c.args.db.now.snapshot.entries in
    let w = window_of c.args.db.now in
    let selects = g.S.Selector.selects c.args.db.now.filter in
    let probe = c.args.probe in
    let f = form_of c.args.form.now in
    let v = c.in_ok-v-in-Value.v in
    let kind = c.kind_behind-kind.ensures h (c.schema-in-Value.ensures.schema ∙ c.schema-in-Value.ensures.stands.schema_is) in
    rw c.in-Value.is
    (subst
    (λ k. IsGiven h w selects c.args.at (value_given (facts h) (λ v. record probe { v = Some v }) k f) (Ok (record probe { v = Some v })))
    kind
    (value_found h w selects c.args.at
    (λ (v : Value). record probe { v = Some v }) c.kind_behind-kind.result f v c.in_ok-v-in-Value.ensures))
