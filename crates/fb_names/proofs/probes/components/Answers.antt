use Rattle.std.proofs.Common.{◌≡◌, ◌+◌, ◌≤◌, ◌∙◌, ap, length, refl, arith, Some, Result, Err}
use Rattle.std.specs.Prelude.{slice_get}
use Rattle.std.specs.Option.{option_map}
use Rattle.std.proofs.lemmas.List.{length-map}
use Rattle.std.proofs.lemmas.Option.{slice_get-map, slice_get_read}
use Rattle.std.proofs.lemmas.Result.{err_from_is_err_and}
use Rattle.edn_form.specs.View.{form_of, forms_of}
use Rattle.fb_values.specs.declared.indexes.Probe.{Probe}
use Rattle.fb_model.specs.Facts.{facts}
use Rattle.fb_db.specs.Seen.{window_of}
use Rattle.read_refusals.specs.declared.reasons.Refusal.{Refusal}
use Rattle.read_model.specs.Components.{parts_of, with_next, AreComponents}
use Rattle.fb_names.specs.Answers.{IsGiven}
use Rattle.fb_names.specs.Parts.{model_component}
use Rattle.fb_names.proofs.Reading.{stopped, one_more, refused_here, are_components}
use Rattle.fb_names.proofs.probes.components.Goals as goal

pub returns-in_err-probe : goal.returns-in_err-probe
returns-in_err-probe g c =
    let h = c.args.db.now.snapshot.entries in
    let w = window_of c.args.db.now in
    let selects = g.S.Selector.selects c.args.db.now.filter in
    let forms = forms_of c.args.given.now in
    let i = c.loop-place.place in
    let f = form_of c.index-given-place.result in
    let part = model_component c.part_at-part.result in
    let at_form : slice_get forms i ≡ Some f =
    slice_get-map form_of c.args.given.now i
    ∙ ap (option_map form_of)
    (slice_get_read c.args.given.now (length c.args.given.now) i c.index-given-place.result refl (omega arith) c.index-given-place.is) in
    let same : length forms ≡ length c.args.given.now = length-map c.args.given.now form_of in
    let few : length forms ≤ 4 = omega arith in
    let p = err_from_is_err_and c.from_residual.result c.from_residual.ensures.1 in
    rw (p.1, p.2) (stopped
    (λ (answer : Result Probe Refusal). IsGiven h w selects (i + 2) (with_next (facts h) c.loop-place.probe part f) answer)
    (λ (answer : Result Probe Refusal). AreComponents h w selects c.args.order forms answer)
    (λ r refused. are_components h w selects c.args.order forms (Err r) few (c.loop-place.invariant (Err r)
    (refused_here h w selects c.loop-place.probe (parts_of c.args.order) forms i part f c.part_at-part.ensures at_form r refused)))
    c.in_err-probe.field-0.0 c.in_err-probe.ensures)

pub loop-place-preserved : goal.loop-place-preserved
loop-place-preserved g c =
    let h = c.args.db.now.snapshot.entries in
    let w = window_of c.args.db.now in
    let selects = g.S.Selector.selects c.args.db.now.filter in
    let forms = forms_of c.args.given.now in
    let i = c.loop-place.place in
    let f = form_of c.index-given-place.result in
    let part = model_component c.part_at-part.result in
    let at_form : slice_get forms i ≡ Some f =
    slice_get-map form_of c.args.given.now i
    ∙ ap (option_map form_of)
    (slice_get_read c.args.given.now (length c.args.given.now) i c.index-given-place.result refl (omega arith) c.index-given-place.is) in
    λ answer rest. c.loop-place.invariant answer (one_more h w selects c.loop-place.probe
    (parts_of c.args.order) forms i part f c.part_at-part.ensures at_form c.in_ok-probe.probe answer c.in_ok-probe.ensures rest)
