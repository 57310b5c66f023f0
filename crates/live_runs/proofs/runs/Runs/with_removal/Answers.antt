use Rattle.std.proofs.Common.{◌≡◌, ◌∙◌, ◌+◌, ◌-◌, sym, ap, subst, arith}
use Rattle.std.specs.Prelude.{Contains}
use Rattle.live_runs.specs.Changed.{without}
use Rattle.live_runs.specs.Members.{datom_of}
use Rattle.live_runs.specs.Runs.{AreRuns, Layers, middle_changes, runs_datoms, settled_members}
use Rattle.live_runs.proofs.Running.{removed_runs}
use Rattle.live_runs.proofs.runs.Runs.with_removal.Goals as goal

pub overflow_sub-result : goal.overflow_sub-result
overflow_sub-result c =
    omega (arith, c.requires.there.1, c.requires.runs.count_is, ap (λ (r : Layers). r.count) c.self.view_is)

pub returns-clause-runs : goal.returns-clause-runs
returns-clause-runs c =
    let r : Layers =
    record {
      newest = c.self.inside.newest.items;
      middle = middle_changes c.self.inside.settled;
      settled = settled_members c.self.inside.settled;
      count = c.self.inside.len;
    } in
    let are : AreRuns c.args.order c.args.table.now r = subst (AreRuns c.args.order c.args.table.now) (sym c.self.view_is) c.requires.runs in
    let counted : (c.self.inside.len - 1) + 1 ≡ r.count =
    omega (arith, c.requires.there.1, c.requires.runs.count_is, ap (λ (l : Layers). l.count) c.self.view_is) in
    (removed_runs c.args.order c.args.table.now r c.args.change c.put.new.changes.items (c.self.inside.len - 1) are c.requires.member
    c.requires.removes
    (subst (λ (l : Layers). Contains (runs_datoms c.args.order c.args.table.now l) (datom_of c.args.table.now c.args.change.number))
    (sym c.self.view_is) c.requires.there) c.in_ok-put.ensures.value counted).0

pub returns-clause-datoms : goal.returns-clause-datoms
returns-clause-datoms c =
    let r : Layers =
    record {
      newest = c.self.inside.newest.items;
      middle = middle_changes c.self.inside.settled;
      settled = settled_members c.self.inside.settled;
      count = c.self.inside.len;
    } in
    let are : AreRuns c.args.order c.args.table.now r = subst (AreRuns c.args.order c.args.table.now) (sym c.self.view_is) c.requires.runs in
    let counted : (c.self.inside.len - 1) + 1 ≡ r.count =
    omega (arith, c.requires.there.1, c.requires.runs.count_is, ap (λ (l : Layers). l.count) c.self.view_is) in
    (removed_runs c.args.order c.args.table.now r c.args.change c.put.new.changes.items (c.self.inside.len - 1) are c.requires.member
    c.requires.removes
    (subst (λ (l : Layers). Contains (runs_datoms c.args.order c.args.table.now l) (datom_of c.args.table.now c.args.change.number))
    (sym c.self.view_is) c.requires.there) c.in_ok-put.ensures.value counted).1
    ∙ ap (λ (l : Layers). without c.args.order (datom_of c.args.table.now c.args.change.number)
    (runs_datoms c.args.order c.args.table.now l)) c.self.view_is
