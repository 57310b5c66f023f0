use Rattle.std.proofs.Common.{◌∙◌, ◌<◌, ◌^◌, List, length, sym, ap, subst}
use Rattle.fb_values.specs.declared.facts.Datom.{Datom}
use Rattle.fb_values.specs.Rising.{IsRising}
use Rattle.live_runs.specs.Changed.{from_probe}
use Rattle.live_runs.specs.Bounds.{blocks_at_least}
use Rattle.live_index.proofs.FourLists.{list_lacks, list_of}
use Rattle.live_index.proofs.Runs.{runs_rise}
use Rattle.live_index.proofs.half.Half.seek.Goals as goal

pub returns-in-None-clause-place : goal.returns-in-None-clause-place
returns-in-None-clause-place g c =
    c.of.ensures ∙ ap (from_probe c.args.probe.now)
    (sym (list_lacks c.args.probe.now.order c.self.inside.table.now c.self.inside.orders c.args.self.now c.in-None.is c.self.view_is))

pub returns-in-None-clause-rising : goal.returns-in-None-clause-rising
returns-in-None-clause-rising g c =
    subst (IsRising c.args.probe.now.order)
    (sym (list_lacks c.args.probe.now.order c.self.inside.table.now c.self.inside.orders c.args.self.now c.in-None.is c.self.view_is)) tt

pub seek-requires : goal.seek-requires
seek-requires g c =
    (list_of c.args.probe.now.order c.self.inside.table.now c.self.inside.orders c.in-Some.orders c.list-runs.result.now c.args.self.now
    c.in-Some.is c.self.invariant c.self.view_is c.list-runs.ensures).are

pub returns-in-Some-clause-place : goal.returns-in-Some-clause-place
returns-in-Some-clause-place g c =
    c.of-in-Some.ensures ∙ c.seek.ensures.datoms ∙ ap (from_probe c.args.probe.now)
    (list_of c.args.probe.now.order c.self.inside.table.now c.self.inside.orders c.in-Some.orders c.list-runs.result.now c.args.self.now
    c.in-Some.is c.self.invariant c.self.view_is c.list-runs.ensures).is

pub returns-in-Some-clause-rising : goal.returns-in-Some-clause-rising
returns-in-Some-clause-rising g c =
    let l =
    list_of c.args.probe.now.order c.self.inside.table.now c.self.inside.orders c.in-Some.orders c.list-runs.result.now c.args.self.now
    c.in-Some.is c.self.invariant c.self.view_is c.list-runs.ensures in
    subst (IsRising c.args.probe.now.order) l.is (runs_rise c.args.probe.now.order c.self.inside.table.now c.list-runs.result.now l.are)

pub returns-in-Some-clause-cost : goal.returns-in-Some-clause-cost
returns-in-Some-clause-cost g c = λ digits few.
    let l =
    list_of c.args.probe.now.order c.self.inside.table.now c.self.inside.orders c.in-Some.orders c.list-runs.result.now c.args.self.now
    c.in-Some.is c.self.invariant c.self.view_is c.list-runs.ensures in
    c.seek.ensures.cost digits (subst (λ (ds : List Datom). blocks_at_least (length ds) < 2 ^ digits) (sym l.is) few)
