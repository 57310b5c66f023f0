use Rattle.std.proofs.Common.{List, get_or, false, refl, subst, sym, arith}
use Rattle.std.specs.List.{All}
use Rattle.live_runs.specs.declared.members.Change.{Change}
use Rattle.fb_values.specs.Rising.{IsRising}
use Rattle.live_runs.specs.Members.{IsMember, changing, held_by}
use Rattle.live_runs.specs.Merged.{merged}
use Rattle.live_runs.proofs.Merges.{behind_members, behind_rises, merged_end, merged_more}
use Rattle.live_runs.proofs.merging.merged.Goals as goal

pub loop-change-init : goal.loop-change-init
loop-change-init c =
    record { members = c.requires.older; rising = c.requires.rising; whole = rw c.in_ok-all.ensures.items refl }

pub loop-change-preserved : goal.loop-change-preserved
loop-change-preserved c =
    let change : Change =
    get_or c.args.newer.now c.loop-change.change-index (record { prefix = record { high = 0; low = 0 }; number = 0; removes = false }) in
    record {
      members =
          subst (All (λ x. IsMember c.args.order c.args.table.now (changing x))) (sym c.in_ok-left.ensures.left)
          (behind_members c.args.order c.args.table.now change c.loop-change.left.now c.loop-change.invariant.members);
      rising =
          subst (λ (l : List Change). IsRising c.args.order (held_by changing c.args.table.now l)) (sym c.in_ok-left.ensures.left)
          (behind_rises c.args.order c.args.table.now change c.loop-change.left.now c.loop-change.invariant.rising);
      whole =
          merged_more c.args.order c.args.table.now c.args.newer.now c.loop-change.change-index
          (record { prefix = record { high = 0; low = 0 }; number = 0; removes = false }) c.loop-change.all.items
          c.loop-change.left.now c.taken_over.new.all.items c.in_ok-left.left.now
          (merged c.args.order c.args.table.now c.args.newer.now c.args.older.now) (omega arith) c.loop-change.invariant.whole
          c.in_ok-left.ensures.all c.in_ok-left.ensures.left;
    }

pub returns : goal.returns
returns c =
    merged_end c.args.order c.args.table.now c.args.newer.now c.loop-change.change-index c.loop-change.all.items c.loop-change.left.now
    c.extend_from_slice.new.self.items (merged c.args.order c.args.table.now c.args.newer.now c.args.older.now) (omega arith)
    c.loop-change.invariant.whole c.in_ok-extend_from_slice.ensures.items
