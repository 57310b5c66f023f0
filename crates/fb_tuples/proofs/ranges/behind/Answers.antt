-- By where the end begins.
use Rattle.std.proofs.Common.{◌≡◌, ◌∙◌, sym, ap, subst, map, [], option_map, Option, Some, None}
use Rattle.std.specs.Option.{option_map_or}
use Rattle.std.proofs.lemmas.Result.{IfOk-weaker}
use Rattle.fb_db.specs.Seen.{window_of}
use Rattle.tuple_model.specs.Tuples.{Tuple}
use Rattle.fb_tuples.specs.Lent.{model_row}
use Rattle.fb_tuples.specs.Reached.{HasRange, first_member}
use Rattle.fb_tuples.proofs.Reaching.{reached_range, empty_range}
use Rattle.fb_tuples.proofs.ranges.behind.Goals as goal

pub returns-in-Some-None : goal.returns-in-Some-None
returns-in-Some-None g c = λ bound starts first.
    let db = c.args.db.now in
    let h = db.snapshot.entries in
    let w = window_of db in
    let selects = g.S.Selector.selects db.filter in
    let attrs = c.args.attrs.now in
    let end = c.in-Some-None.field-0-0.now in
    let end_is : option_map (λ b. b.now) c.args.end ≡ Some end = ap (option_map (λ b. b.now)) c.in-Some-None.is-0 in
    let none : first_member end ≡ None =
    ap (λ (o : Option Tuple). option_map_or first_member o None) (sym end_is) ∙ sym c.beginning.ensures
    ∙ ap (option_map (λ v. v.now)) c.in-Some-None.is-1 in
    subst (λ l. HasRange h w selects attrs (Some bound) (option_map (λ b. b.now) c.args.end) (map model_row l)) (sym c.new.ensures.items)
    (subst (λ (o : Option Tuple). HasRange h w selects attrs (Some bound) o []) (sym end_is)
    (empty_range h w selects attrs c.args.a first c.args.least.now bound starts end none))

pub returns-in_default : goal.returns-in_default
returns-in_default g c = λ bound starts first.
    let db = c.args.db.now in
    IfOk-weaker c.reached_rows.result _ _ (λ rows has.
    reached_range db.snapshot.entries (window_of db) (g.S.Selector.selects db.filter) c.args.attrs.now c.args.a first c.args.least.now bound starts
    (option_map (λ b. b.now) c.args.end) (option_map (λ v. v.now) c.beginning.result) c.beginning.ensures (map model_row rows.items) has)
    c.reached_rows.ensures
