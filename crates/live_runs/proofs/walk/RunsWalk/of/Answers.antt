use Rattle.std.proofs.Common.{◌≡◌, ◌∙◌, List, sym, ap, subst}
use Rattle.live_runs.specs.declared.members.Change.{Change}
use Rattle.live_runs.specs.Changes.{changed_by}
use Rattle.std.specs.List.{All}
use Rattle.live_runs.specs.Members.{IsMember, changing, named}
use Rattle.live_runs.specs.Merged.{first_and, merged, waiting_in}
use Rattle.live_runs.specs.Walks.{AreLeft, members_left}
use Rattle.live_runs.proofs.Merges.{both_left}
use Rattle.live_runs.proofs.walk.RunsWalk.of.Goals as goal

pub pop-first-requires : goal.pop-first-requires
pop-first-requires c =
    record {
      newer = subst (All (λ x. IsMember c.args.order c.args.table.now (changing x))) (sym c.of-waiting.ensures.newer) c.requires.newest_are.members;
      older = subst (All (λ x. IsMember c.args.order c.args.table.now (changing x))) (sym c.of-waiting.ensures.older) c.requires.middle_are.members;
    }

pub returns-clause-left : goal.returns-clause-left
returns-clause-left c =
    let both =
    both_left c.args.order c.args.table.now c.args.newest.now c.args.middle.now c.args.chunk.now c.args.later.now c.requires in
    let same : merged c.args.order c.args.table.now c.args.newest.now c.args.middle.now
    ≡ first_and c.pop-first.result (waiting_in c.args.order c.args.table.now c.pop-first.new.self) =
    ap (λ (l : List Change). merged c.args.order c.args.table.now l c.args.middle.now) (sym c.of-waiting.ensures.newer)
    ∙ ap (merged c.args.order c.args.table.now c.of-waiting.result.newer.now) (sym c.of-waiting.ensures.older)
    ∙ c.pop-first.ensures.first in
    record {
      waits = c.pop-first.ensures.named;
      left =
          subst (λ (l : List Change). AreLeft c.args.order c.args.table.now l c.args.chunk.now c.args.later.now 0) same both.0;
    }

pub returns-clause-datoms : goal.returns-clause-datoms
returns-clause-datoms c =
    let both =
    both_left c.args.order c.args.table.now c.args.newest.now c.args.middle.now c.args.chunk.now c.args.later.now c.requires in
    let same : merged c.args.order c.args.table.now c.args.newest.now c.args.middle.now
    ≡ first_and c.pop-first.result (waiting_in c.args.order c.args.table.now c.pop-first.new.self) =
    ap (λ (l : List Change). merged c.args.order c.args.table.now l c.args.middle.now) (sym c.of-waiting.ensures.newer)
    ∙ ap (merged c.args.order c.args.table.now c.of-waiting.result.newer.now) (sym c.of-waiting.ensures.older)
    ∙ c.pop-first.ensures.first in
    ap (λ (l : List Change). changed_by c.args.order c.args.table.now l
    (named c.args.table.now (members_left c.args.chunk.now c.args.later.now))) (sym same)
    ∙ both.1
