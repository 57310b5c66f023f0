use Rattle.std.proofs.Common.{false, refl, arith}
use Rattle.live_runs.specs.Changes.{added, changed_by, removed}
use Rattle.live_runs.specs.Members.{named}
use Rattle.live_runs.proofs.Changed.{changed_rises}
use Rattle.live_runs.proofs.Named.{may_change}
use Rattle.live_runs.proofs.Stepping.{members_within, taken_more, taken_all}
use Rattle.live_runs.proofs.weaving.with_changes.Goals as goal

pub loop-change-init : goal.loop-change-init
loop-change-init c =
    record {
      left_is = c.requires.members;
      changes_are = c.requires.changes;
      whole = rw c.in_ok-all.ensures.items refl;
      all_are = rw c.in_ok-all.ensures.items (λ k d within. absurd (omega arith));
    }

pub loop-change-preserved : goal.loop-change-preserved
loop-change-preserved c =
    taken_more c.args.order c.args.table.now
    (changed_by c.args.order c.args.table.now c.args.changes.now (named c.args.table.now c.args.members.now)) c.args.changes.now
    c.loop-change.change-index (record { prefix = record { high = 0; low = 0 }; number = 0; removes = false }) c.loop-change.all.items
    c.taken_over.new.all.items c.loop-change.left.now c.in_ok-left.left.now c.requires.single (omega arith) c.loop-change.invariant
    c.in_ok-left.ensures.all c.in_ok-left.ensures.left

pub returns-clause-members : goal.returns-clause-members
returns-clause-members c =
    (taken_all c.args.order c.args.table.now
    (changed_by c.args.order c.args.table.now c.args.changes.now (named c.args.table.now c.args.members.now)) c.args.changes.now
    c.loop-change.change-index c.loop-change.all.items c.loop-change.left.now c.extend_from_slice.new.self.items c.requires.single
    (omega arith) c.loop-change.invariant c.in_ok-extend_from_slice.ensures.items
    (changed_rises c.args.order c.args.table.now (removed c.args.table.now c.args.changes.now) (added c.args.table.now c.args.changes.now)
    (named c.args.table.now c.args.members.now) c.requires.single
    (may_change c.args.order c.args.table.now c.args.changes.now (named c.args.table.now c.args.members.now) c.requires.changes
    c.requires.members.rising (members_within c.args.order c.args.table.now c.args.members.now c.requires.members)))).0

pub returns-clause-datoms : goal.returns-clause-datoms
returns-clause-datoms c =
    (taken_all c.args.order c.args.table.now
    (changed_by c.args.order c.args.table.now c.args.changes.now (named c.args.table.now c.args.members.now)) c.args.changes.now
    c.loop-change.change-index c.loop-change.all.items c.loop-change.left.now c.extend_from_slice.new.self.items c.requires.single
    (omega arith) c.loop-change.invariant c.in_ok-extend_from_slice.ensures.items
    (changed_rises c.args.order c.args.table.now (removed c.args.table.now c.args.changes.now) (added c.args.table.now c.args.changes.now)
    (named c.args.table.now c.args.members.now) c.requires.single
    (may_change c.args.order c.args.table.now c.args.changes.now (named c.args.table.now c.args.members.now) c.requires.changes
    c.requires.members.rising (members_within c.args.order c.args.table.now c.args.members.now c.requires.members)))).1
