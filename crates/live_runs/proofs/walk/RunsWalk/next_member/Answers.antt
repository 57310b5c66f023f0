use Rattle.std.proofs.Common.{◌≡◌, ◌∙◌, ◌∷◌, List, ap, subst}
use Rattle.live_runs.specs.declared.members.Member.{Member}
use Rattle.live_runs.specs.Changes.{changed_by}
use Rattle.live_runs.specs.Members.{named}
use Rattle.live_runs.specs.Walks.{AreLeft, changes_left, members_left}
use Rattle.live_runs.proofs.Left.{left_member}
use Rattle.live_runs.proofs.walk.RunsWalk.next_member.Goals as goal

pub returns-clause-left : goal.returns-clause-left
returns-clause-left c =
    let next : c.args.self.now.chunk.now ≡ c.in_ok-member.member.now ∷ c.in_ok-member.rest.now = c.in_ok-member.ensures.cases.0 in
    record {
      waits = c.requires.left.waits;
      left =
          (left_member c.args.self.now.order c.args.self.now.table.now (changes_left c.args.self.now) c.in_ok-member.member.now
          c.in_ok-member.rest.now c.args.self.now.later.now c.args.self.now.safe
          (subst (λ (l : List Member). AreLeft c.args.self.now.order c.args.self.now.table.now (changes_left c.args.self.now) l
          c.args.self.now.later.now c.args.self.now.safe) next c.requires.left.left) c.requires.safe).1;
    }

pub returns-clause-first : goal.returns-clause-first
returns-clause-first c =
    let next : c.args.self.now.chunk.now ≡ c.in_ok-member.member.now ∷ c.in_ok-member.rest.now = c.in_ok-member.ensures.cases.0 in
    let is =
    left_member c.args.self.now.order c.args.self.now.table.now (changes_left c.args.self.now) c.in_ok-member.member.now
    c.in_ok-member.rest.now c.args.self.now.later.now c.args.self.now.safe
    (subst (λ (l : List Member). AreLeft c.args.self.now.order c.args.self.now.table.now (changes_left c.args.self.now) l
    c.args.self.now.later.now c.args.self.now.safe) next c.requires.left.left) c.requires.safe in (
      is.0,
      ap (λ (l : List Member). changed_by c.args.self.now.order c.args.self.now.table.now (changes_left c.args.self.now)
          (named c.args.self.now.table.now (members_left l c.args.self.now.later.now))) next ∙ is.2,
    )
