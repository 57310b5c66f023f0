use Rattle.std.proofs.Common.{◌∙◌, sym, ap, subst}
use Rattle.fb_values.specs.Lists.{list_in}
use Rattle.live_index.specs.declared.orders.Orders.{Orders}
use Rattle.live_index.specs.Lists.{AreIf, AreOrders, lists_if, lists_of}
use Rattle.live_index.proofs.FourLists.{none_in}
use Rattle.live_index.proofs.Growing.{both_ok}
use Rattle.live_index.proofs.retracting.copied.Goals as goal

pub returns-in-None-clause-are : goal.returns-in-None-clause-are
returns-in-None-clause-are c = λ table single are. c.empty.ensures.are table single

pub returns-in-None-clause-lists : goal.returns-in-None-clause-lists
returns-in-None-clause-lists c = λ table order.
    c.empty.ensures.lists table order ∙ sym (none_in order) ∙ ap (λ o. list_in (lists_if table o) order) (sym c.in-None.is)

pub returns-in-Some-clause-are : goal.returns-in-Some-clause-are
returns-in-Some-clause-are c =
    both_ok c.copy.result _ _ _ (λ copy is also table single are.
    subst (λ (o : Orders). AreOrders table o) (sym (is ∙ c.get.ensures)) (subst (AreIf table) c.in-Some.is are))
    c.copy.ensures c.copy.ensures

pub returns-in-Some-clause-lists : goal.returns-in-Some-clause-lists
returns-in-Some-clause-lists c =
    both_ok c.copy.result _ _ _ (λ copy is also table order.
    ap (λ (o : Orders). list_in (lists_of table o) order) (is ∙ c.get.ensures)
    ∙ ap (λ o. list_in (lists_if table o) order) (sym c.in-Some.is)) c.copy.ensures c.copy.ensures
