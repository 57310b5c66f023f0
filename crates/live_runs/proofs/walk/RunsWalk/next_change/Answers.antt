use Rattle.std.proofs.Common.{◌≡◌, ◌∙◌, [], ◌∷◌, List, Option, ap, subst}
use denote.Ref.{Bor}
use Rattle.live_runs.specs.declared.members.Change.{Change}
use Rattle.live_runs.specs.declared.members.Member.{Member}
use Rattle.live_runs.specs.Changes.{changed_by}
use Rattle.live_runs.specs.Members.{datom_of, named}
use Rattle.live_runs.specs.Merged.{first_and, waiting_in}
use Rattle.live_runs.specs.Walks.{AreLeft, IsAhead, changes_left, left_of, members_left}
use Rattle.live_runs.proofs.Left.{left_change}
use Rattle.live_runs.proofs.walk.RunsWalk.next_change.Goals as goal

pub returns-clause-left : goal.returns-clause-left
returns-clause-left c =
    let others = waiting_in c.args.self.now.order c.args.self.now.table.now c.args.self.now.waiting in
    let is : changes_left c.args.self.now ≡ c.in_ok-change.change.now
    ∷ waiting_in c.args.self.now.order c.args.self.now.table.now c.args.self.now.waiting =
    ap (λ (f : Option (Bor Change)). first_and f (waiting_in c.args.self.now.order c.args.self.now.table.now c.args.self.now.waiting))
    c.in_ok-change.was in
    let next =
    left_change c.args.self.now.order c.args.self.now.table.now c.in_ok-change.change.now others c.args.self.now.chunk.now
    c.args.self.now.later.now c.args.self.now.safe
    (subst (λ (l : List Change). AreLeft c.args.self.now.order c.args.self.now.table.now l c.args.self.now.chunk.now
    c.args.self.now.later.now c.args.self.now.safe) is c.requires.left.left) c.requires.safe
    (subst (λ (l : List Change). IsAhead c.args.self.now.order c.args.self.now.table.now l
    (members_left c.args.self.now.chunk.now c.args.self.now.later.now)) is c.requires.ahead) in
    record {
      waits = c.pop-self.ensures.named;
      left =
          subst (λ (l : List Change). AreLeft c.args.self.now.order c.args.self.now.table.now l c.args.self.now.chunk.now
          c.args.self.now.later.now c.args.self.now.safe) c.pop-self.ensures.first next.1;
    }

pub returns-clause-first : goal.returns-clause-first
returns-clause-first c =
    let others = waiting_in c.args.self.now.order c.args.self.now.table.now c.args.self.now.waiting in
    let is : changes_left c.args.self.now ≡ c.in_ok-change.change.now
    ∷ waiting_in c.args.self.now.order c.args.self.now.table.now c.args.self.now.waiting =
    ap (λ (f : Option (Bor Change)). first_and f (waiting_in c.args.self.now.order c.args.self.now.table.now c.args.self.now.waiting))
    c.in_ok-change.was in
    let next =
    left_change c.args.self.now.order c.args.self.now.table.now c.in_ok-change.change.now others c.args.self.now.chunk.now
    c.args.self.now.later.now c.args.self.now.safe
    (subst (λ (l : List Change). AreLeft c.args.self.now.order c.args.self.now.table.now l c.args.self.now.chunk.now
    c.args.self.now.later.now c.args.self.now.safe) is c.requires.left.left) c.requires.safe
    (subst (λ (l : List Change). IsAhead c.args.self.now.order c.args.self.now.table.now l
    (members_left c.args.self.now.chunk.now c.args.self.now.later.now)) is c.requires.ahead) in (
      next.0,
      ap (λ (l : List Change). changed_by c.args.self.now.order c.args.self.now.table.now l
          (named c.args.self.now.table.now (members_left c.args.self.now.chunk.now c.args.self.now.later.now))) is
          ∙ next.2
          ∙ ap (λ (l : List Change). datom_of c.args.self.now.table.now c.in_ok-change.change.now.number
          ∷ changed_by c.args.self.now.order c.args.self.now.table.now l
          (named c.args.self.now.table.now (members_left c.args.self.now.chunk.now c.args.self.now.later.now))) c.pop-self.ensures.first,
    )

-- with no change left, no member is left either
pub returns-in_err-change-clause-first : goal.returns-in_err-change-clause-first
returns-in_err-change-clause-first c =
    let is : changes_left c.args.self.now ≡ [] =
    ap (λ (f : Option (Bor Change)). first_and f (waiting_in c.args.self.now.order c.args.self.now.table.now c.args.self.now.waiting))
    c.in_err-change.was in
    let none : members_left c.args.self.now.chunk.now c.args.self.now.later.now ≡ [] =
    subst (λ (l : List Change). IsAhead c.args.self.now.order c.args.self.now.table.now l
    (members_left c.args.self.now.chunk.now c.args.self.now.later.now)) is c.requires.ahead in
    let empty : left_of c.args.self.now ≡ [] =
    ap (λ (l : List Change). changed_by c.args.self.now.order c.args.self.now.table.now l
    (named c.args.self.now.table.now (members_left c.args.self.now.chunk.now c.args.self.now.later.now))) is
    ∙ ap (λ (l : List Member). changed_by c.args.self.now.order c.args.self.now.table.now [] (named c.args.self.now.table.now l)) none in
    rw c.from_residual.ensures (empty, empty)
