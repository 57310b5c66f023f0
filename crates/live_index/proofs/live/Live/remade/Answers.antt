use Rattle.std.proofs.Common.{Some, sym, ap, subst}
use Rattle.fb_values.specs.Lists.{list_in}
use Rattle.live_index.specs.declared.orders.Orders.{Orders}
use Rattle.live_index.specs.Growth.{IsGrown}
use Rattle.live_index.specs.Halves.{both_lists}
use Rattle.live_index.specs.Lists.{AreIndex, lists_of}
use Rattle.live_index.proofs.FromTable.{grown_gathered, index_gathered, single_gathered}
use Rattle.live_index.proofs.live.Live.remade.Goals as goal

pub split-requires-clause-single : goal.split-requires-clause-single
split-requires-clause-single c =
    single_gathered c.args.covers.now c.self.inside.table c.self.inside.holding c.self.inside.past c.self.inside.last c.args.self.now c.args.refill.now
    c.args.datoms.now c.in_ok-gathered.gathered c.self.invariant c.self.view_is c.requires.single c.in_ok-gathered.ensures

pub split-requires-clause-own : goal.split-requires-clause-own
split-requires-clause-own c = c.in_ok-gathered.ensures.own

pub split-requires-clause-coming : goal.split-requires-clause-coming
split-requires-clause-coming c = c.in_ok-gathered.ensures.coming

pub invariant_of-result : goal.invariant_of-result
invariant_of-result c =
    subst (λ o. AreIndex c.in_ok-gathered.gathered.table c.in_ok-both.field-0.both.holding o c.in_ok-both.field-0.last) (ap Some (sym c.in_ok-new.ensures))
    (index_gathered c.args.covers.now c.self.inside.table c.self.inside.holding c.self.inside.past c.self.inside.last c.args.self.now c.args.refill.now
    c.args.datoms.now c.in_ok-gathered.gathered c.self.invariant c.self.view_is c.requires.single c.in_ok-gathered.ensures
    c.in_ok-both.field-0.both.holding c.in_ok-both.field-0.both.past c.in_ok-both.ensures.holding c.in_ok-both.ensures.past
    c.in_ok-both.ensures.stands c.in_ok-both.ensures.falls c.in_ok-both.field-0.last c.in_ok-both.ensures.last)

pub returns : goal.returns
returns c = λ order.
    subst (λ (o : Orders). IsGrown order c.args.covers.now (list_in c.args.self.now order) c.args.refill.now c.args.datoms.now
    (list_in (both_lists (lists_of c.in_ok-gathered.gathered.table c.in_ok-both.field-0.both.holding)
    (lists_of c.in_ok-gathered.gathered.table o)) order)) (sym c.in_ok-new.ensures)
    (grown_gathered c.args.covers.now c.self.inside.table c.self.inside.holding c.self.inside.past c.self.inside.last c.args.self.now c.args.refill.now
    c.args.datoms.now c.in_ok-gathered.gathered c.self.invariant c.self.view_is c.requires.single c.in_ok-gathered.ensures
    c.in_ok-both.field-0.both.holding c.in_ok-both.field-0.both.past c.in_ok-both.ensures.holding c.in_ok-both.ensures.past
    c.in_ok-both.ensures.stands c.in_ok-both.ensures.falls order)
