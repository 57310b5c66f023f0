use Rattle.std.proofs.Common.{◌≡◌, ℕ, List, Option, Some, None, refl, sym, ap, subst, ◌∙◌}
use Rattle.std.specs.Prelude.{OnOk}
use Rattle.std.specs.Option.{option_map}
use Rattle.std.proofs.lemmas.Result.{on_ok_weaker}
use Rattle.edn_form.specs.View.{form_of}
use Rattle.fb_model.specs.History.{basis}
use Rattle.fb_model.specs.Facts.{facts}
use Rattle.fb_db.specs.Seen.{window_of}
use Rattle.tuple_model.specs.Given.{composite_in}
use Rattle.read_refusals.specs.declared.reasons.Reason.TheVariants.{BadTuple}
use Rattle.read_model.specs.Given.{refusal}
use Rattle.talk_model.specs.Looks.{refused}
use Rattle.talk_model.specs.TupleRanges.{of_composite}
use Rattle.fb_reads.specs.Answers.{IsLineFor, ShowsRange, sight_in}
use Rattle.fb_reads.proofs.tuples.answer_tuples.Goals as goal

pub returns-in-Some : goal.returns-in-Some
returns-in-Some g c = λ guard.
    let view = c.args.view.now in
    let table = view.filter.table.now in
    let h = view.snapshot.entries in
    let w = window_of view in
    let sight =
    sight_in (g.T.FilterTable.place_of table) (g.T.FilterTable.name_at table) (g.T.FilterTable.selects_at table) guard h w
    view.filter.places.items in
    let stands = c.schema.ensures.schema ∙ c.schema.ensures.stands.schema_is in
    let named : Some c.in-Some.attrs.items ≡ composite_in (facts h) (form_of c.args.names.now) =
    ap (option_map (λ list. list.items)) (sym c.in-Some.is) ∙ c.in_ok-attrs.ensures h stands in
    subst (λ (attrs : Option (List ℕ)). OnOk c.answer_composite.result (IsLineFor (ShowsRange h w sight.Selects
    (of_composite (facts h) w.history attrs (form_of c.args.start.now) (form_of c.args.end.now))) c.answer_composite.new.line.items))
    (ap Some c.deref.ensures.value ∙ named) c.answer_composite.ensures

pub returns-in-None : goal.returns-in-None
returns-in-None g c = λ guard.
    let view = c.args.view.now in
    let table = view.filter.table.now in
    let h = view.snapshot.entries in
    let w = window_of view in
    let sight =
    sight_in (g.T.FilterTable.place_of table) (g.T.FilterTable.name_at table) (g.T.FilterTable.selects_at table) guard h w
    view.filter.places.items in
    let stands = c.schema.ensures.schema ∙ c.schema.ensures.stands.schema_is in
    let none : None ≡ composite_in (facts h) (form_of c.args.names.now) =
    ap (option_map (λ list. list.items)) (sym c.in-None.is) ∙ c.in_ok-attrs.ensures h stands in
    subst (λ (attrs : Option (List ℕ)). OnOk c.refuse_at.result (IsLineFor (ShowsRange h w sight.Selects
    (of_composite (facts h) w.history attrs (form_of c.args.start.now) (form_of c.args.end.now))) c.refuse_at.new.line.items))
    none (on_ok_weaker c.refuse_at.result (λ says. (refused (basis h) (refusal BadTuple 1), refl, says)) c.refuse_at.ensures)
