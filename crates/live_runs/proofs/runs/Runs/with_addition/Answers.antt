use Rattle.std.proofs.Common.{◌∙◌, ◌+◌, sym, ap, refl, subst}
use Rattle.std.specs.Prelude.{Contains}
use Rattle.fb_model.specs.Rising.{put_in_order}
use Rattle.live_runs.specs.Members.{datom_of}
use Rattle.live_runs.specs.Runs.{AreRuns, Layers, middle_changes, runs_datoms, settled_members}
use Rattle.live_runs.proofs.Running.{added_runs}
use Rattle.live_runs.proofs.runs.Runs.with_addition.Goals as goal

pub returns-clause-runs : goal.returns-clause-runs
returns-clause-runs c =
    let r : Layers =
    record {
      newest = c.self.inside.newest.items;
      middle = middle_changes c.self.inside.settled;
      settled = settled_members c.self.inside.settled;
      count = c.self.inside.len;
    } in
    let are : AreRuns c.args.order c.args.table.now r = subst (AreRuns c.args.order c.args.table.now) (sym c.self.view_is) c.requires.runs in
    (added_runs c.args.order c.args.table.now r c.args.change c.put.new.changes.items (c.self.inside.len + 1) are c.requires.member
    c.requires.adds
    (λ inside. c.requires.fresh (subst (λ (l : Layers). Contains (runs_datoms c.args.order c.args.table.now l)
    (datom_of c.args.table.now c.args.change.number)) c.self.view_is inside)) c.in_ok-put.ensures.value refl).0

pub returns-clause-datoms : goal.returns-clause-datoms
returns-clause-datoms c =
    let r : Layers =
    record {
      newest = c.self.inside.newest.items;
      middle = middle_changes c.self.inside.settled;
      settled = settled_members c.self.inside.settled;
      count = c.self.inside.len;
    } in
    let are : AreRuns c.args.order c.args.table.now r = subst (AreRuns c.args.order c.args.table.now) (sym c.self.view_is) c.requires.runs in
    (added_runs c.args.order c.args.table.now r c.args.change c.put.new.changes.items (c.self.inside.len + 1) are c.requires.member
    c.requires.adds
    (λ inside. c.requires.fresh (subst (λ (l : Layers). Contains (runs_datoms c.args.order c.args.table.now l)
    (datom_of c.args.table.now c.args.change.number)) c.self.view_is inside)) c.in_ok-put.ensures.value refl).1
    ∙ ap (λ (l : Layers). put_in_order c.args.order (datom_of c.args.table.now c.args.change.number)
    (runs_datoms c.args.order c.args.table.now l)) c.self.view_is
