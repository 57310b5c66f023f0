-- The rows of the entities of the lists are the tuples in the view.
use Rattle.std.proofs.Common.{◌≡◌, ◌∙◌, ℕ, List, sym, ap, subst, map}
use Rattle.std.specs.Borrow.{Bor}
use Rattle.std.proofs.lemmas.Result.{IfOk-weaker}
use Rattle.std.specs.Prelude.{◌↔◌, All, Contains, Vec}
use Rattle.std.specs.declared.alloc.Global.{Global}
use Rattle.fb_values.specs.declared.facts.Datom.{Datom}
use Rattle.fb_db.specs.Seen.{window_of}
use Rattle.view_model.specs.Window.{Window, without_history}
use Rattle.fb_tuples.specs.Lent.{lists_lent}
use Rattle.fb_tuples.specs.Gathered.{AreLists, IsByEntity, entities_in, row_in}
use Rattle.fb_tuples.specs.Reached.{HasRange}
use Rattle.fb_tuples.proofs.Listed.{each_by_entity}
use Rattle.fb_tuples.proofs.Gathering.{gathered}
use Rattle.fb_tuples.proofs.rows.all_rows.Goals as goal

pub rows_of-requires : goal.rows_of-requires
rows_of-requires g c =
    subst (λ l. All IsByEntity l) (sym c.deref-2.ensures.value)
    (each_by_entity _ _ _ c.args.attrs.now c.in_ok-lists.lists.items c.in_ok-lists.ensures.lists)

pub returns : goal.returns
returns g c =
    let db = c.args.db.now in
    let selects = g.S.Selector.selects db.filter in
    let w = window_of db in
    let attrs = c.args.attrs.now in
    let plain : w ≡ without_history w = λ i. record { from = db.from; to = db.to; history = c.requires i } in
    let lists = lists_lent c.in_ok-lists.lists.items in
    let entities = c.in_ok-entities.entities.items in
    let listed = subst (λ (v : Window). AreLists db.snapshot.entries v selects attrs lists) plain c.in_ok-lists.ensures.lists in
    let exact = subst (λ (ls : List (Vec (Bor Datom) Global)). (e : ℕ) → Contains (entities_in (lists_lent ls)) e ↔ Contains entities e)
    c.deref.ensures.value c.in_ok-entities.ensures.members in
    IfOk-weaker c.rows_of.result _ _ (λ rows are start end.
    subst (HasRange db.snapshot.entries w selects attrs start end)
    (sym (are ∙ ap (λ ls. map (row_in (lists_lent ls)) c.deref-3.result.now) c.deref-2.ensures.value ∙ ap (map (row_in lists)) c.deref-3.ensures.value))
    (gathered db.snapshot.entries w selects attrs lists listed entities exact start end c.in_ok-entities.ensures.rising)) c.rows_of.ensures
