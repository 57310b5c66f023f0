-- What is judged is one transaction's.
use Rattle.std.proofs.Common.{◌+◌, ap, sym, ◌∙◌, subst}
use Rattle.std.specs.Prelude.{◌<ℤ◌, IsTrue}
use Rattle.fb_numbers.specs.Numbers.{greatest_instant}
use Rattle.fb_model.specs.History as history
use Rattle.tx_asks.specs.Triples.{rise, AreTriples}
use Rattle.tx_after.specs.After.{AreChanges}
use Rattle.tx_step.proofs.Steps as steps
use Rattle.tx_step.proofs.deciding.judged_changes.Goals as goal

pub least_refusal-requires-clause-rising : goal.least_refusal-requires-clause-rising
least_refusal-requires-clause-rising g c =
    let one = c.requires.acts in
    subst (λ list. IsTrue (rise list)) (sym c.deref-2.ensures.value) (c.in_ok-triples.ensures one.tx one.db_is one.acts_are).rising

pub least_refusal-requires-clause-changes : goal.least_refusal-requires-clause-changes
least_refusal-requires-clause-changes g c =
    let one = c.requires.acts in
    let triples = subst (AreTriples one.tx) (sym c.deref.ensures.value) (c.in_ok-triples.ensures one.tx one.db_is one.acts_are) in
    let next = ap (λ t. t + 1) (c.basis.ensures ∙ ap (λ db. history.basis db.history) (sym one.db_is)) in
    subst AreChanges (sym (c.as_slice.ensures.value ∙ c.in_ok-changes.ensures one.tx one.acts_are.built triples next))
    (c.changes_are_of_one_entry.ensures one.tx one.acts_are.built)

pub returns-in-Some-clause-refused : goal.returns-in-Some-clause-refused
returns-in-Some-clause-refused g c tx db_is acts_are tempids =
    let triples = subst (AreTriples tx) (sym c.deref.ensures.value) (c.in_ok-triples.ensures tx db_is acts_are) in
    let again = subst (AreTriples tx) (sym c.deref-2.ensures.value) (c.in_ok-triples.ensures tx db_is acts_are) in
    let next = ap (λ t. t + 1) (c.basis.ensures ∙ ap (λ db. history.basis db.history) (sym db_is)) in
    let changes_are = c.as_slice.ensures.value ∙ c.in_ok-changes.ensures tx acts_are.built triples next in
    sym (c.in_ok-refusal.ensures tx db_is acts_are tempids again changes_are) ∙ c.in-Some.is

pub returns-clause-unbroken : goal.returns-clause-unbroken
returns-clause-unbroken g c tx db_is acts_are tempids =
    let triples = subst (AreTriples tx) (sym c.deref.ensures.value) (c.in_ok-triples.ensures tx db_is acts_are) in
    let again = subst (AreTriples tx) (sym c.deref-2.ensures.value) (c.in_ok-triples.ensures tx db_is acts_are) in
    let next = ap (λ t. t + 1) (c.basis.ensures ∙ ap (λ db. history.basis db.history) (sym db_is)) in
    let changes_are = c.as_slice.ensures.value ∙ c.in_ok-changes.ensures tx acts_are.built triples next in
    sym (c.in_ok-refusal.ensures tx db_is acts_are tempids again changes_are) ∙ c.in-None.is

pub returns-clause-changes_are : goal.returns-clause-changes_are
returns-clause-changes_are g c =
    let one = c.requires.acts in
    let triples = subst (AreTriples one.tx) (sym c.deref.ensures.value) (c.in_ok-triples.ensures one.tx one.db_is one.acts_are) in
    let next = ap (λ t. t + 1) (c.basis.ensures ∙ ap (λ db. history.basis db.history) (sym one.db_is)) in
    subst AreChanges (sym (c.in_ok-changes.ensures one.tx one.acts_are.built triples next))
    (c.changes_are_of_one_entry.ensures one.tx one.acts_are.built)

pub returns-clause-room : goal.returns-clause-room
returns-clause-room g c =
    let one = c.requires.acts in
    let triples = subst (AreTriples one.tx) (sym c.deref.ensures.value) (c.in_ok-triples.ensures one.tx one.db_is one.acts_are) in
    let again = subst (AreTriples one.tx) (sym c.deref-2.ensures.value) (c.in_ok-triples.ensures one.tx one.db_is one.acts_are) in
    let next = ap (λ t. t + 1) (c.basis.ensures ∙ ap (λ db. history.basis db.history) (sym one.db_is)) in
    let changes_are = c.as_slice.ensures.value ∙ c.in_ok-changes.ensures one.tx one.acts_are.built triples next in
    let unbroken = sym (c.in_ok-refusal.ensures one.tx one.db_is one.acts_are one.tempids_are again changes_are) ∙ c.in-None.is in
    subst (λ db. history.last_instant db.history <ℤ greatest_instant) one.db_is (steps.room_left one.tx unbroken)
