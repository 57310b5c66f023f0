use Rattle.std.proofs.Common.{◌∙◌, List, sym, subst}
use Rattle.fb_values.specs.declared.facts.Datom.{Datom}
use Rattle.live_runs.specs.Walks.{IsFirstOf}
use Rattle.live_index.specs.Halves.{merged}
use Rattle.live_index.proofs.Stepping.{step_holding, step_past}
use Rattle.live_index.proofs.walk.Walk.next.Goals as goal

pub invariant_of-self : goal.invariant_of-self
invariant_of-self c =
    let w = c.self.inside in
    let first = rw (c.first.ensures, c.first-2.ensures) at (sym c.is_next.ensures ∙ c.if-is_next.true) in
    (step_holding w.order w.holding w.past c.next.new.self c.next.result c.self.invariant first c.next.ensures).pair

pub invariant_of-self-else-is_next : goal.invariant_of-self-else-is_next
invariant_of-self-else-is_next c =
    let w = c.self.inside in
    let first = rw (c.first.ensures, c.first-2.ensures) at (sym c.is_next.ensures ∙ c.if-is_next.false) in
    (step_past w.order w.holding w.past c.next-else-is_next.new.self c.next-else-is_next.result c.self.invariant first
    c.next-else-is_next.ensures).pair

pub returns-then-is_next : goal.returns-then-is_next
returns-then-is_next c =
    let w = c.self.inside in
    let first = rw (c.first.ensures, c.first-2.ensures) at (sym c.is_next.ensures ∙ c.if-is_next.true) in
    let step = step_holding w.order w.holding w.past c.next.new.self c.next.result c.self.invariant first c.next.ensures in
    subst (λ (l : List Datom). IsFirstOf l (merged w.order c.next.new.self w.past) c.next.result) c.self.view_is step.first

pub returns-else-is_next : goal.returns-else-is_next
returns-else-is_next c =
    let w = c.self.inside in
    let first = rw (c.first.ensures, c.first-2.ensures) at (sym c.is_next.ensures ∙ c.if-is_next.false) in
    let step =
    step_past w.order w.holding w.past c.next-else-is_next.new.self c.next-else-is_next.result c.self.invariant first
    c.next-else-is_next.ensures in
    subst (λ (l : List Datom). IsFirstOf l (merged w.order w.holding c.next-else-is_next.new.self) c.next-else-is_next.result)
    c.self.view_is step.first
