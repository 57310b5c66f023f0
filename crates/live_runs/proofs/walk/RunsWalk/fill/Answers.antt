use Rattle.std.proofs.Common.{◌≡◌, ◌∙◌, ◌∷◌, List, length, sym, subst}
use Rattle.std.proofs.lemmas.Bool.{eqb-true}
use Rattle.std.proofs.lemmas.List.{nil_from_length}
use Rattle.live_runs.specs.declared.members.Member.{Member}
use Rattle.live_runs.specs.declared.parts.Part.{Part}
use Rattle.live_runs.specs.Parts.{members_in}
use Rattle.live_runs.specs.Walks.{AreLeft, changes_left}
use Rattle.live_runs.proofs.Left.{left_part}
use Rattle.live_runs.proofs.walk.RunsWalk.fill.Goals as goal

pub returns-in-Some-clause-left : goal.returns-in-Some-clause-left
returns-in-Some-clause-left c =
    let next : c.args.self.now.later.now ≡ c.in-Some.part.now ∷ c.in-Some.rest.now = c.in-Some.ensures.cases.0 in
    let empty : length c.args.self.now.chunk.now ≡ 0 =
    eqb-true (length c.args.self.now.chunk.now) 0 (sym c.is_empty.ensures ∙ c.if-is_empty.true) in
    let same : c.deref-self.result.now ≡ members_in c.in-Some.part.now = cc (c.deref-self.ensures.value, c.get.ensures) in
    record {
      waits = c.requires.left.waits;
      left =
          subst (λ (l : List Member). AreLeft c.args.self.now.order c.args.self.now.table.now (changes_left c.args.self.now) l
          c.in-Some.rest.now c.args.self.now.safe) (sym same)
          (left_part c.args.self.now.order c.args.self.now.table.now (changes_left c.args.self.now) c.args.self.now.chunk.now
          c.in-Some.part.now c.in-Some.rest.now c.args.self.now.safe
          (subst (λ (l : List Part). AreLeft c.args.self.now.order c.args.self.now.table.now (changes_left c.args.self.now)
          c.args.self.now.chunk.now l c.args.self.now.safe) next c.requires.left.left) c.requires.safe
          (nil_from_length c.args.self.now.chunk.now empty));
    }
