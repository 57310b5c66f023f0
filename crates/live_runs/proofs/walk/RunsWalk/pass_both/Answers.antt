use Rattle.std.proofs.Common.{◌≡◌, ◌∙◌, ◌∷◌, true, List, length, ap, sym, subst, arith}
use Rattle.live_runs.specs.declared.members.Change.{Change}
use Rattle.live_runs.specs.declared.members.Member.{Member}
use Rattle.live_runs.specs.Changes.{changed_by}
use Rattle.live_runs.specs.Members.{named}
use Rattle.live_runs.specs.Merged.{waiting_in}
use Rattle.live_runs.specs.Walks.{AreLeft, changes_left, meets, members_left}
use Rattle.live_runs.proofs.Left.{left_both}
use Rattle.live_runs.proofs.Merges.{met_first}
use Rattle.live_runs.proofs.walk.RunsWalk.pass_both.Goals as goal

pub returns-in-Some-clause-left : goal.returns-in-Some-clause-left
returns-in-Some-clause-left c =
    let order = c.args.self.now.order in
    let table = c.args.self.now.table.now in
    let others = waiting_in c.args.self.now.order c.args.self.now.table.now c.args.self.now.waiting in
    let y = c.in-Some.field-0-0.now in
    let members : c.args.self.now.chunk.now ≡ c.in-Some.field-0-0.now ∷ c.in-Some.members.now = c.in-Some.ensures.cases.0 in
    let first = met_first c.args.self.now.order c.args.self.now.table.now c.args.self.now.first others c.args.self.now.chunk.now c.requires.meets in
    let left : AreLeft c.args.self.now.order c.args.self.now.table.now (first.0 ∷ others) (y ∷ c.in-Some.members.now)
    c.args.self.now.later.now c.args.self.now.safe =
    subst (λ (l : List Change). AreLeft c.args.self.now.order c.args.self.now.table.now l (y ∷ c.in-Some.members.now)
    c.args.self.now.later.now c.args.self.now.safe) first.1
    (subst (λ (l : List Member). AreLeft c.args.self.now.order c.args.self.now.table.now (changes_left c.args.self.now) l
    c.args.self.now.later.now c.args.self.now.safe) members c.requires.left.left) in
    let met : meets c.args.self.now.order c.args.self.now.table.now (first.0 ∷ others) (y ∷ c.in-Some.members.now) ≡ true =
    subst (λ (l : List Change). meets c.args.self.now.order c.args.self.now.table.now l (y ∷ c.in-Some.members.now) ≡ true) first.1
    (subst (λ (l : List Member). meets c.args.self.now.order c.args.self.now.table.now (changes_left c.args.self.now) l ≡ true) members
    c.requires.meets) in
    record {
      waits = c.pop-self.ensures.named;
      left =
          subst (λ (l : List Change). AreLeft c.args.self.now.order c.args.self.now.table.now l c.in-Some.members.now
          c.args.self.now.later.now c.args.self.now.safe) c.pop-self.ensures.first
          (left_both order table first.0 others y c.in-Some.members.now c.args.self.now.later.now c.args.self.now.safe left c.requires.safe
          met).0;
    }

pub returns-in-Some-clause-same : goal.returns-in-Some-clause-same
returns-in-Some-clause-same c =
    let order = c.args.self.now.order in
    let table = c.args.self.now.table.now in
    let others = waiting_in c.args.self.now.order c.args.self.now.table.now c.args.self.now.waiting in
    let y = c.in-Some.field-0-0.now in
    let members : c.args.self.now.chunk.now ≡ c.in-Some.field-0-0.now ∷ c.in-Some.members.now = c.in-Some.ensures.cases.0 in
    let first = met_first c.args.self.now.order c.args.self.now.table.now c.args.self.now.first others c.args.self.now.chunk.now c.requires.meets in
    let left : AreLeft c.args.self.now.order c.args.self.now.table.now (first.0 ∷ others) (y ∷ c.in-Some.members.now)
    c.args.self.now.later.now c.args.self.now.safe =
    subst (λ (l : List Change). AreLeft c.args.self.now.order c.args.self.now.table.now l (y ∷ c.in-Some.members.now)
    c.args.self.now.later.now c.args.self.now.safe) first.1
    (subst (λ (l : List Member). AreLeft c.args.self.now.order c.args.self.now.table.now (changes_left c.args.self.now) l
    c.args.self.now.later.now c.args.self.now.safe) members c.requires.left.left) in
    let met : meets c.args.self.now.order c.args.self.now.table.now (first.0 ∷ others) (y ∷ c.in-Some.members.now) ≡ true =
    subst (λ (l : List Change). meets c.args.self.now.order c.args.self.now.table.now l (y ∷ c.in-Some.members.now) ≡ true) first.1
    (subst (λ (l : List Member). meets c.args.self.now.order c.args.self.now.table.now (changes_left c.args.self.now) l ≡ true) members
    c.requires.meets) in
    ap (λ (l : List Change). changed_by c.args.self.now.order c.args.self.now.table.now l
    (named c.args.self.now.table.now (members_left c.in-Some.members.now c.args.self.now.later.now))) (sym c.pop-self.ensures.first)
    ∙ (left_both order table first.0 others y c.in-Some.members.now c.args.self.now.later.now c.args.self.now.safe left c.requires.safe met).1
    ∙ ap (λ (l : List Change). changed_by c.args.self.now.order c.args.self.now.table.now l
    (named c.args.self.now.table.now (members_left (y ∷ c.in-Some.members.now) c.args.self.now.later.now))) (sym first.1)
    ∙ ap (λ (l : List Member). changed_by c.args.self.now.order c.args.self.now.table.now (changes_left c.args.self.now)
    (named c.args.self.now.table.now (members_left l c.args.self.now.later.now))) (sym members)

pub returns-in-Some-clause-fewer : goal.returns-in-Some-clause-fewer
returns-in-Some-clause-fewer c =
    let others = waiting_in c.args.self.now.order c.args.self.now.table.now c.args.self.now.waiting in
    let first = met_first c.args.self.now.order c.args.self.now.table.now c.args.self.now.first others c.args.self.now.chunk.now c.requires.meets in
    omega (arith, ap length first.1, ap length c.pop-self.ensures.first)
