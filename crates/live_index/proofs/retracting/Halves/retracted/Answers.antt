use Rattle.std.proofs.Common.{◌≡◌, ◌∙◌, false, not, drop, sym, List, subst}
use Rattle.std.specs.List.{list_any}
use Rattle.fb_values.specs.declared.facts.Datom.{Datom}
use Rattle.fb_values.specs.Lists.{list_in}
use Rattle.live_index.specs.Ending.{IsRetracted, MayEndAll}
use Rattle.live_index.specs.Lists.{AreOrders, lists_if, lists_of}
use Rattle.live_index.proofs.Retractions.{all_added, retracted-kept}
use Rattle.live_index.proofs.retracting.Halves.retracted.Goals as goal

pub returns-then-not-has_retraction-clause-retracted : goal.returns-then-not-has_retraction-clause-retracted
returns-then-not-has_retraction-clause-retracted c = λ order.
    let ds = drop c.args.first c.args.table.now in
    let none : list_any (λ d. not d.added) ds ≡ false = sym c.has_retraction.ensures ∙ c.if-not-has_retraction.true in
    retracted-kept order c.args.covers.now (list_in (lists_of c.args.table.now c.args.self.holding) order)
    (list_in (lists_if c.args.table.now c.args.self.past) order) ds (all_added c.args.covers.now order ds none)

pub retracted-requires-clause-past : goal.retracted-requires-clause-past
retracted-requires-clause-past c = c.in_ok-past.ensures.are c.args.table.now c.requires.single c.requires.past

pub retracted-requires-clause-may : goal.retracted-requires-clause-may
retracted-requires-clause-may c = λ order.
    subst (λ (l : List Datom). MayEndAll (list_in (lists_of c.args.table.now c.args.self.holding) order) l
    (drop c.args.first c.args.table.now)) (sym (c.in_ok-past.ensures.lists c.args.table.now order)) (c.requires.may order)

pub returns-clause-past : goal.returns-clause-past
returns-clause-past c = subst (AreOrders c.args.table.now) (sym c.in_ok-new.ensures) c.in_ok-holding.ensures.past

pub returns-clause-retracted : goal.returns-clause-retracted
returns-clause-retracted c = λ order.
    let table = c.args.table.now in
    let ds = drop c.args.first c.args.table.now in
    let h = list_in (lists_of table c.args.self.holding) order in
    let new = list_in (lists_of table c.in_ok-holding.field-0.holding) order in
    subst (λ o. IsRetracted order c.args.covers.now h (list_in (lists_if table c.args.self.past) order) ds new (list_in (lists_of table o) order))
    (sym c.in_ok-new.ensures)
    (subst (λ (l : List Datom). IsRetracted order c.args.covers.now h l ds new
    (list_in (lists_of table c.in_ok-holding.field-0.past) order)) (c.in_ok-past.ensures.lists table order)
    (c.in_ok-holding.ensures.retracted order))
