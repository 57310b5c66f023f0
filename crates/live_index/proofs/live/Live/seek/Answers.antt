use Rattle.std.proofs.Common.{◌<◌, ◌^◌, List, length, sym, subst, arith}
use Rattle.fb_values.specs.declared.facts.Datom.{Datom}
use Rattle.fb_values.specs.Lists.{list_in}
use Rattle.live_runs.specs.Bounds.{blocks_at_least}
use Rattle.live_index.proofs.Seeking.{from_both, pair_from}
use Rattle.live_index.proofs.live.Live.seek.Goals as goal

pub invariant_of-result : goal.invariant_of-result
invariant_of-result g c =
    let order = c.args.probe.now.order in
    rw (c.seek.ensures.place, c.seek-2.ensures.place, c.holding.ensures.stands order, c.past.ensures.withdrawn order)
    (pair_from c.args.probe.now (list_in c.args.self.now order) (c.holding.ensures.rising order))

pub returns-clause-place : goal.returns-clause-place
returns-clause-place g c =
    let order = c.args.probe.now.order in
    rw (c.seek.ensures.place, c.seek-2.ensures.place, c.holding.ensures.stands order, c.past.ensures.withdrawn order)
    (from_both c.args.probe.now (list_in c.args.self.now order) (c.holding.ensures.rising order))

pub returns-clause-rising : goal.returns-clause-rising
returns-clause-rising g c = c.holding.ensures.rising c.args.probe.now.order

pub returns-clause-cost : goal.returns-clause-cost
returns-clause-cost g c = λ holding past few few_past.
    let order = c.args.probe.now.order in
    let first =
    c.seek.ensures.cost holding
    (subst (λ (l : List Datom). blocks_at_least (length l) < 2 ^ holding) (sym (c.holding.ensures.stands order)) few) in
    let second =
    c.seek-2.ensures.cost past
    (subst (λ (l : List Datom). blocks_at_least (length l) < 2 ^ past) (sym (c.past.ensures.withdrawn order)) few_past) in
    omega (arith, first, second)
