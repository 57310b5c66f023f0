-- Each entity with a value that is reached is among those whose rows are read.
use Rattle.std.proofs.Common.{◌≡◌, ◌∙◌, ℕ, List, subst, map, option_map}
use Rattle.std.specs.Borrow.{Bor}
use Rattle.std.specs.Prelude.{◌↔◌, Contains}
use Rattle.std.proofs.lemmas.List.Elements.{All-contains}
use Rattle.std.proofs.lemmas.Result.{IfOk-weaker}
use Rattle.fb_values.specs.declared.facts.Datom.{Datom}
use Rattle.fb_db.specs.Seen.{window_of}
use Rattle.view_model.specs.Window.{Window, without_history}
use Rattle.fb_tuples.specs.Reached.{HasReached}
use Rattle.tuple_model.specs.Seen.{AreMembers}
use Rattle.fb_tuples.specs.declared.rows.LentRow.{LentRow}
use Rattle.fb_tuples.specs.Lent.{model_row, tuple_lent, datoms_lent}
use Rattle.fb_tuples.proofs.Reaching.{both_ok, rows_reached}
use Rattle.fb_tuples.proofs.reach.reached_rows.Goals as goal

pub returns : goal.returns
returns g c =
    let db = c.args.db.now in
    let selects = g.S.Selector.selects db.filter in
    let w = window_of db in
    let greatest = option_map (λ v. v.now) c.args.reach.greatest in
    let plain : w ≡ without_history w = λ i. record { from = db.from; to = db.to; history = c.requires i } in
    let found = c.in_ok-found.found.items in
    let entities = c.in_ok-entities.entities.items in
    let exact = subst (λ (ds : List (Bor Datom)). (e : ℕ) → Contains (map (λ d. d.e) (datoms_lent ds)) e ↔ Contains entities e)
    c.deref.ensures.value c.in_ok-entities.ensures.members in
    IfOk-weaker c.rows_at.result _ _ (λ rows are.
    rows_reached db.snapshot.entries w selects c.args.attrs.now c.args.a c.args.reach.least.now
    greatest model_row rows.items (datoms_lent found) entities
    (subst (λ (v : Window). HasReached db.snapshot.entries v selects c.args.a c.args.reach.least.now greatest (datoms_lent found)) plain c.in_ok-found.ensures)
    c.in_ok-entities.ensures.rising exact (are.0 ∙ c.deref-2.ensures.value) (λ row member. All-contains (λ (r : LentRow). AreMembers db.snapshot.entries w selects r.e c.args.attrs.now (tuple_lent r.tuple.items)) rows.items row are.1 member))
    (both_ok c.rows_at.result _ _ c.rows_at.ensures.entities c.rows_at.ensures.members)
