use Rattle.std.proofs.Common.{◌≡◌, ◌∙◌, List, length, sym, ap, subst}
use Rattle.live_runs.specs.declared.members.Change.{Change}
use Rattle.live_runs.specs.declared.settled.Settled.{Settled}
use Rattle.live_runs.specs.Changes.{changed_by}
use Rattle.live_runs.specs.Runs.{IsSettled, Layers, middle_changes, runs_datoms, settled_datoms, settled_members}
use Rattle.live_runs.proofs.Running.{settled_runs}
use Rattle.live_runs.proofs.runs.Runs.with_room.Goals as goal

pub returns-clause-runs : goal.returns-clause-runs
returns-clause-runs c =
    let is : settled_datoms c.args.order c.args.table.now c.in_ok-new.field-0.middle.items c.in_ok-new.field-0.parts
    ≡ runs_datoms c.args.order c.args.table.now c.args.self =
    ap (λ (s : Settled). settled_datoms c.args.order c.args.table.now s.middle.items s.parts) c.in_ok-new.ensures
    ∙ c.in_ok-settled.ensures.datoms
    ∙ ap (λ (l : List Change). changed_by c.args.order c.args.table.now l
    (settled_datoms c.args.order c.args.table.now (middle_changes c.self.inside.settled) (settled_members c.self.inside.settled)))
    c.deref.ensures.value
    ∙ ap (runs_datoms c.args.order c.args.table.now) c.self.view_is in
    let counted : c.self.inside.len ≡ length (runs_datoms c.args.order c.args.table.now c.args.self) =
    ap (λ (r : Layers). r.count) c.self.view_is ∙ c.requires.count_is in
    (settled_runs c.args.order c.args.table.now c.in_ok-with_capacity.field-0.items c.in_ok-new.field-0.middle.items
    c.in_ok-new.field-0.parts c.self.inside.len (runs_datoms c.args.order c.args.table.now c.args.self) c.requires.single
    (subst (λ (s : Settled). IsSettled c.args.order c.args.table.now s.middle.items s.parts) (sym c.in_ok-new.ensures)
    c.in_ok-settled.ensures.settled) c.in_ok-with_capacity.ensures.items is counted).0

pub returns-clause-datoms : goal.returns-clause-datoms
returns-clause-datoms c =
    let is : settled_datoms c.args.order c.args.table.now c.in_ok-new.field-0.middle.items c.in_ok-new.field-0.parts
    ≡ runs_datoms c.args.order c.args.table.now c.args.self =
    ap (λ (s : Settled). settled_datoms c.args.order c.args.table.now s.middle.items s.parts) c.in_ok-new.ensures
    ∙ c.in_ok-settled.ensures.datoms
    ∙ ap (λ (l : List Change). changed_by c.args.order c.args.table.now l
    (settled_datoms c.args.order c.args.table.now (middle_changes c.self.inside.settled) (settled_members c.self.inside.settled)))
    c.deref.ensures.value
    ∙ ap (runs_datoms c.args.order c.args.table.now) c.self.view_is in
    let counted : c.self.inside.len ≡ length (runs_datoms c.args.order c.args.table.now c.args.self) =
    ap (λ (r : Layers). r.count) c.self.view_is ∙ c.requires.count_is in
    (settled_runs c.args.order c.args.table.now c.in_ok-with_capacity.field-0.items c.in_ok-new.field-0.middle.items
    c.in_ok-new.field-0.parts c.self.inside.len (runs_datoms c.args.order c.args.table.now c.args.self) c.requires.single
    (subst (λ (s : Settled). IsSettled c.args.order c.args.table.now s.middle.items s.parts) (sym c.in_ok-new.ensures)
    c.in_ok-settled.ensures.settled) c.in_ok-with_capacity.ensures.items is counted).1
