-- In the view of everything the tuples are those of the facts.
use Rattle.std.proofs.Common.{◌≡◌, ◌∙◌, ◌+◌, ◌≤◌, List, None, ap, subst, arith}
use Rattle.std.specs.Prelude.{⊤}
use Rattle.std.proofs.lemmas.Bool.{and_parts, leb-true}
use Rattle.fb_numbers.specs.Numbers.{greatest_t}
use Rattle.fb_values.specs.declared.facts.Entry.{Entry}
use Rattle.fb_model.specs.History.{basis}
use Rattle.fb_model.proofs.Times.{next_t}
use Rattle.view_model.specs.Window.{Window, whole}
use Rattle.tuple_model.specs.Seen.{AreTuplesIn}
use Rattle.test_scans.proofs.tuples.kept_after.Goals as goal

pub after-requires-clause-stands : goal.after-requires-clause-stands
after-requires-clause-stands c =
    let h = c.args.before.now.entries in let index = c.in_ok-index.index in let db = c.of-db.result in
    let told : c.args.entry.now.t ≤ greatest_t = leb-true c.args.entry.now.t greatest_t (and_parts _ _ c.requires.next_t).1 in
    let few : basis h ≤ greatest_t = omega (arith, told, next_t h c.args.entry.now c.requires) in
    let same : db.snapshot.entries ≡ h = ap (λ s. s.entries) (c.of-db.ensures.snapshot ∙ c.in_ok-share.ensures) in
    let seen = subst (λ (w : Window). AreTuplesIn db.snapshot.entries w (λ d. ⊤) index.attrs None None index.rows) c.of-db.ensures.window
    c.in_ok-index.ensures.index.1 in
    (c.tuples_in_a_view_are_one_list.ensures.whole h index.attrs index.rows c.basis-basis.ensures.stands.history.lawful few (λ d. tt)).0
    (subst (λ (l : List Entry). AreTuplesIn l whole (λ d. ⊤) index.attrs None None index.rows) same seen)
