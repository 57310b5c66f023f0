use Rattle.std.proofs.Common.{◌∙◌, Option, Result}
use Rattle.std.proofs.lemmas.Result.{err_from_is_err_and}
use Rattle.edn_form.specs.View.{form_of}
use Rattle.fb_values.specs.declared.facts.Value.{Value}
use Rattle.fb_values.specs.declared.indexes.Order.TheVariants.{Avet}
use Rattle.fb_model.specs.Facts.{facts}
use Rattle.fb_db.specs.Seen.{window_of}
use Rattle.read_refusals.specs.declared.reasons.Refusal.{Refusal}
use Rattle.read_model.specs.Components.{attribute_in, end_given, IsIndexRange}
use Rattle.fb_names.specs.declared.ranges.ValueRange.{ValueRange}
use Rattle.fb_names.specs.Answers.{IsGiven}
use Rattle.fb_names.specs.Ranges.{range_of}
use Rattle.fb_names.proofs.Reading.{stopped, typed_ok, attribute_refused, start_refused, end_refused, range_found}
use Rattle.fb_names.proofs.ranges.index_range.Goals as goal

pub returns-in_err-attribute : goal.returns-in_err-attribute
returns-in_err-attribute g c =
    let h = c.args.db.now.snapshot.entries in
    let w = window_of c.args.db.now in
    let selects = g.S.Selector.selects c.args.db.now.filter in
    let p = err_from_is_err_and c.from_residual.result c.from_residual.ensures.1 in
    rw (p.1, p.2)
    (attribute_refused h w selects (form_of c.args.a.now) (form_of c.args.start.now) (form_of c.args.end.now) c.in_err-attribute.field-0.0
    (c.in_err-attribute.ensures h (c.schema.ensures.schema ∙ c.schema.ensures.stands.schema_is)))

pub returns-in_err-start : goal.returns-in_err-start
returns-in_err-start g c =
    let h = c.args.db.now.snapshot.entries in
    let w = window_of c.args.db.now in
    let selects = g.S.Selector.selects c.args.db.now.filter in
    let a = form_of c.args.a.now in
    let x = c.in_ok-attribute.attribute in
    let t =
    typed_ok Avet 1 (attribute_in (facts h) a) x
    (c.in_ok-attribute.ensures h (c.schema.ensures.schema ∙ c.schema.ensures.stands.schema_is)) in
    let p = err_from_is_err_and c.from_residual-in_err-start.result c.from_residual-in_err-start.ensures.1 in
    rw (p.1, p.2) (stopped
    (λ (answer : Result (Option Value) Refusal). IsGiven h w selects 2 (end_given (facts h) x.kind (form_of c.args.start.now)) answer)
    (λ (answer : Result ValueRange Refusal).
    IsIndexRange h w selects a (form_of c.args.start.now) (form_of c.args.end.now) (range_of answer))
    (λ r refused. start_refused h w selects a (form_of c.args.start.now) (form_of c.args.end.now) x t r refused)
    c.in_err-start.field-0.0 c.in_err-start.ensures)

pub returns-in_err-end : goal.returns-in_err-end
returns-in_err-end g c =
    let h = c.args.db.now.snapshot.entries in
    let w = window_of c.args.db.now in
    let selects = g.S.Selector.selects c.args.db.now.filter in
    let a = form_of c.args.a.now in
    let x = c.in_ok-attribute.attribute in
    let t =
    typed_ok Avet 1 (attribute_in (facts h) a) x
    (c.in_ok-attribute.ensures h (c.schema.ensures.schema ∙ c.schema.ensures.stands.schema_is)) in
    let p = err_from_is_err_and c.from_residual-in_err-end.result c.from_residual-in_err-end.ensures.1 in
    rw (p.1, p.2) (stopped
    (λ (answer : Result (Option Value) Refusal). IsGiven h w selects 3 (end_given (facts h) x.kind (form_of c.args.end.now)) answer)
    (λ (answer : Result ValueRange Refusal).
    IsIndexRange h w selects a (form_of c.args.start.now) (form_of c.args.end.now) (range_of answer))
    (λ r refused.
    end_refused h w selects a (form_of c.args.start.now) (form_of c.args.end.now) x t c.in_ok-start.start r c.in_ok-start.ensures refused)
    c.in_err-end.field-0.0 c.in_err-end.ensures)

pub returns : goal.returns
returns g c =
    let h = c.args.db.now.snapshot.entries in
    let w = window_of c.args.db.now in
    let selects = g.S.Selector.selects c.args.db.now.filter in
    let a = form_of c.args.a.now in
    let x = c.in_ok-attribute.attribute in
    let t =
    typed_ok Avet 1 (attribute_in (facts h) a) x
    (c.in_ok-attribute.ensures h (c.schema.ensures.schema ∙ c.schema.ensures.stands.schema_is)) in
    range_found h w selects a (form_of c.args.start.now)
    (form_of c.args.end.now) x t c.in_ok-start.start c.in_ok-end.end c.in_ok-start.ensures c.in_ok-end.ensures
