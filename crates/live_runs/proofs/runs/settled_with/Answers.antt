use Rattle.std.proofs.Common.{◌∙◌, List, Option, sym, ap, subst}
use Rattle.live_runs.specs.declared.members.Member.{Member}
use Rattle.live_runs.specs.declared.settled.Settled.{Settled}
use Rattle.live_runs.specs.Runs.{middle_changes, settled_datoms, settled_members}
use Rattle.live_runs.specs.Changes.{AreMembers, changed_by}
use Rattle.live_runs.specs.Members.{named}
use Rattle.live_runs.proofs.Running.{alone_settled}
use Rattle.live_runs.proofs.runs.settled_with.Goals as goal

pub returns-in_ok-settled-in-None-clause-settled : goal.returns-in_ok-settled-in-None-clause-settled
returns-in_ok-settled-in-None-clause-settled c =
    (alone_settled c.args.order c.args.table.now c.in_ok-settled-in-None.settled.middle.items c.in_ok-settled-in-None.settled.parts c.requires.single
    (subst (AreMembers c.args.order c.args.table.now) (sym c.in_ok-settled-in-None.ensures.parts) c.in_ok-parts-in-None.ensures.members)
    c.in_ok-settled-in-None.ensures.middle).0

pub returns-in_ok-settled-in-None-clause-datoms : goal.returns-in_ok-settled-in-None-clause-datoms
returns-in_ok-settled-in-None-clause-datoms c =
    (alone_settled c.args.order c.args.table.now c.in_ok-settled-in-None.settled.middle.items c.in_ok-settled-in-None.settled.parts c.requires.single
    (subst (AreMembers c.args.order c.args.table.now) (sym c.in_ok-settled-in-None.ensures.parts) c.in_ok-parts-in-None.ensures.members)
    c.in_ok-settled-in-None.ensures.middle).1
    ∙ ap (named c.args.table.now) c.in_ok-settled-in-None.ensures.parts
    ∙ c.in_ok-parts-in-None.ensures.datoms
    ∙ ap (λ (l : List Member). changed_by c.args.order c.args.table.now c.args.newest.now (named c.args.table.now l)) c.empty.ensures
    ∙ ap (λ (o : Option Settled). changed_by c.args.order c.args.table.now c.args.newest.now
    (settled_datoms c.args.order c.args.table.now (middle_changes o) (settled_members o))) (sym c.in-None.is)
