use Rattle.std.proofs.Common.{◌≡◌, Option, Some, None, refl, sym, ap, subst, ◌∙◌}
use Rattle.std.specs.Prelude.{OnOk}
use Rattle.std.specs.Option.{option_map}
use Rattle.std.proofs.lemmas.Result.{on_ok_weaker}
use Rattle.edn_form.specs.View.{form_of}
use Rattle.fb_model.specs.History.{basis}
use Rattle.fb_model.specs.Facts.{facts}
use Rattle.fb_db.specs.Seen.{window_of}
use Rattle.tuple_model.specs.Tuples.{Tuple}
use Rattle.tuple_model.specs.Given.{kinds_of, bound_in}
use Rattle.read_refusals.specs.declared.reasons.Reason.TheVariants.{BadComponent}
use Rattle.read_model.specs.Given.{refusal}
use Rattle.talk_model.specs.Looks.{refused}
use Rattle.talk_model.specs.TupleRanges.{between}
use Rattle.fb_reads.specs.Answers.{IsLineFor, ShowsRange}
use Rattle.fb_reads.proofs.Tupled.{lent_bound}
use Rattle.fb_reads.proofs.tuples.answer_composite.Goals as goal

pub returns-in-Some : goal.returns-in-Some
returns-in-Some g c =
    let view = c.args.view.now in
    let h = view.snapshot.entries in
    let w = window_of view in
    let kinds = kinds_of (facts h) c.args.attrs.now in
    let stands = c.schema.ensures.schema ∙ c.schema.ensures.stands.schema_is in
    let read : Some (option_map (λ tuple. tuple.items) c.in-Some.start) ≡ bound_in kinds (form_of c.args.start.now) =
    ap (option_map (option_map (λ tuple. tuple.items))) (sym c.in-Some.is) ∙ c.in_ok-start.ensures h stands in
    subst (λ (start : Option (Option Tuple)). OnOk c.answer_from.result (IsLineFor (ShowsRange h w (g.S.Selector.selects view.filter)
    (between w.history c.args.attrs.now start (bound_in kinds (form_of c.args.end.now)))) c.answer_from.new.line.items))
    (ap Some (lent_bound c.in-Some.start c.as_deref.result c.as_deref.ensures.cases) ∙ read) c.answer_from.ensures

pub returns-in-None : goal.returns-in-None
returns-in-None g c =
    let view = c.args.view.now in
    let h = view.snapshot.entries in
    let w = window_of view in
    let kinds = kinds_of (facts h) c.args.attrs.now in
    let stands = c.schema.ensures.schema ∙ c.schema.ensures.stands.schema_is in
    let none : None ≡ bound_in kinds (form_of c.args.start.now) =
    ap (option_map (option_map (λ tuple. tuple.items))) (sym c.in-None.is) ∙ c.in_ok-start.ensures h stands in
    subst (λ (start : Option (Option Tuple)). OnOk c.refuse_at.result (IsLineFor (ShowsRange h w (g.S.Selector.selects view.filter)
    (between w.history c.args.attrs.now start (bound_in kinds (form_of c.args.end.now)))) c.refuse_at.new.line.items))
    none (on_ok_weaker c.refuse_at.result (λ says. (refused (basis h) (refusal BadComponent 2), refl, says)) c.refuse_at.ensures)
