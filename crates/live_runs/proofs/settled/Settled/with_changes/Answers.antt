use Rattle.std.proofs.Common.{◌≡◌, ◌∙◌, List, length, vec_len, refl, rules, sym, ap, subst}
use Rattle.live_runs.specs.declared.members.Change.{Change}
use Rattle.live_runs.specs.declared.members.Member.{Member}
use Rattle.live_runs.specs.Changes.{AreChanges, AreMembers, changed_by}
use Rattle.live_runs.specs.Members.{named}
use Rattle.live_runs.specs.Merged.{merged}
use Rattle.live_runs.proofs.Settling.{both_merged, settled_waits, settled_woven}
use Rattle.live_runs.proofs.settled.Settled.with_changes.Goals as goal

pub with_changes-requires-clause-changes : goal.with_changes-requires-clause-changes
with_changes-requires-clause-changes c =
    let is : c.deref-2.result.now ≡ merged c.args.order c.args.table.now c.args.newest.now c.args.self.now.middle.items =
    c.deref-2.ensures.value
    ∙ c.in_ok-middle.ensures
    ∙ ap (merged c.args.order c.args.table.now c.args.newest.now) c.deref.ensures.value in
    subst (λ (l : List Change). AreChanges c.args.order c.args.table.now l (named c.args.table.now c.get.result.now)) (sym is)
    (subst (λ (l : List Member). AreChanges c.args.order c.args.table.now
    (merged c.args.order c.args.table.now c.args.newest.now c.args.self.now.middle.items) (named c.args.table.now l)) (sym c.get.ensures)
    (both_merged c.args.order c.args.table.now c.args.newest.now c.args.self.now.middle.items c.args.self.now.parts c.requires.single
    c.requires.settled c.requires.newest).are)

pub returns-then-may_wait-clause-settled : goal.returns-then-may_wait-clause-settled
returns-then-may_wait-clause-settled c =
    let len : vec_len c.in_ok-middle.middle ≡ length c.in_ok-middle.middle.items = search (rules, c.in_ok-middle.middle.ok) in
    (settled_waits c.args.order c.args.table.now c.args.newest.now c.args.self.now.middle.items c.args.self.now.parts c.requires.single
    c.requires.settled c.requires.newest c.in_ok-middle.middle.items c.in_ok-parts.parts c.len.result c.args.len
    (length c.args.self.now.parts)
    (c.in_ok-middle.ensures ∙ ap (merged c.args.order c.args.table.now c.args.newest.now) c.deref.ensures.value) c.in_ok-parts.ensures
    (c.len.ensures ∙ len) refl (sym c.in_ok-may_wait.ensures ∙ c.if-may_wait.true) c.requires.len).0

pub returns-then-may_wait-clause-datoms : goal.returns-then-may_wait-clause-datoms
returns-then-may_wait-clause-datoms c =
    let len : vec_len c.in_ok-middle.middle ≡ length c.in_ok-middle.middle.items = search (rules, c.in_ok-middle.middle.ok) in
    (settled_waits c.args.order c.args.table.now c.args.newest.now c.args.self.now.middle.items c.args.self.now.parts c.requires.single
    c.requires.settled c.requires.newest c.in_ok-middle.middle.items c.in_ok-parts.parts c.len.result c.args.len
    (length c.args.self.now.parts)
    (c.in_ok-middle.ensures ∙ ap (merged c.args.order c.args.table.now c.args.newest.now) c.deref.ensures.value) c.in_ok-parts.ensures
    (c.len.ensures ∙ len) refl (sym c.in_ok-may_wait.ensures ∙ c.if-may_wait.true) c.requires.len).1

pub returns-clause-settled : goal.returns-clause-settled
returns-clause-settled c =
    let is : c.deref-2.result.now ≡ merged c.args.order c.args.table.now c.args.newest.now c.args.self.now.middle.items =
    c.deref-2.ensures.value
    ∙ c.in_ok-middle.ensures
    ∙ ap (merged c.args.order c.args.table.now c.args.newest.now) c.deref.ensures.value in
    (settled_woven c.args.order c.args.table.now c.args.newest.now c.args.self.now.middle.items c.args.self.now.parts c.requires.single
    c.requires.settled c.requires.newest c.deref-2.result.now c.in_ok-settled.settled.middle.items c.in_ok-settled.settled.parts is
    c.in_ok-settled.ensures.middle
    (subst (AreMembers c.args.order c.args.table.now) (sym c.in_ok-settled.ensures.parts) c.in_ok-woven.ensures.members)
    (ap (named c.args.table.now) c.in_ok-settled.ensures.parts
    ∙ c.in_ok-woven.ensures.datoms
    ∙ ap (λ (l : List Member). changed_by c.args.order c.args.table.now c.deref-2.result.now (named c.args.table.now l)) c.get.ensures)).0

pub returns-clause-datoms : goal.returns-clause-datoms
returns-clause-datoms c =
    let is : c.deref-2.result.now ≡ merged c.args.order c.args.table.now c.args.newest.now c.args.self.now.middle.items =
    c.deref-2.ensures.value
    ∙ c.in_ok-middle.ensures
    ∙ ap (merged c.args.order c.args.table.now c.args.newest.now) c.deref.ensures.value in
    (settled_woven c.args.order c.args.table.now c.args.newest.now c.args.self.now.middle.items c.args.self.now.parts c.requires.single
    c.requires.settled c.requires.newest c.deref-2.result.now c.in_ok-settled.settled.middle.items c.in_ok-settled.settled.parts is
    c.in_ok-settled.ensures.middle
    (subst (AreMembers c.args.order c.args.table.now) (sym c.in_ok-settled.ensures.parts) c.in_ok-woven.ensures.members)
    (ap (named c.args.table.now) c.in_ok-settled.ensures.parts
    ∙ c.in_ok-woven.ensures.datoms
    ∙ ap (λ (l : List Member). changed_by c.args.order c.args.table.now c.deref-2.result.now (named c.args.table.now l)) c.get.ensures)).1
