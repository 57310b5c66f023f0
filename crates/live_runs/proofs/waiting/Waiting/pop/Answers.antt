use Rattle.std.proofs.Common.{◌∙◌, List, drop, sym, ap, subst}
use Rattle.std.specs.List.{All}
use Rattle.std.proofs.lemmas.List.Elements.{All-drop}
use Rattle.live_runs.specs.declared.members.Change.{Change}
use Rattle.live_runs.specs.Members.{IsMember, changing}
use Rattle.live_runs.specs.Merged.{first_and, merged}
use Rattle.live_runs.proofs.Merges.{heads_dropped, newer_taken, older_taken}
use Rattle.live_runs.proofs.waiting.Waiting.pop.Goals as goal

pub loop-self-preserved : goal.loop-self-preserved
loop-self-preserved c =
    let newer = c.loop-self.self.newer.now in
    let older = c.loop-self.self.older.now in
    let dropped = heads_dropped c.args.order c.args.table.now newer older (sym c.heads_meet.ensures ∙ c.loop-self-test.true) in
    record {
      named =
          record {
            newer =
                subst (All (λ x. IsMember c.args.order c.args.table.now (changing x))) (sym c.pass_heads.ensures.newer)
                (All-drop (λ x. IsMember c.args.order c.args.table.now (changing x)) 1 newer c.loop-self.invariant.named.newer);
            older =
                subst (All (λ x. IsMember c.args.order c.args.table.now (changing x))) (sym c.pass_heads.ensures.older)
                (All-drop (λ x. IsMember c.args.order c.args.table.now (changing x)) 1 older c.loop-self.invariant.named.older);
          };
      same =
          ap (λ (l : List Change). merged c.args.order c.args.table.now l c.pass_heads.new.self.older.now) c.pass_heads.ensures.newer
          ∙ ap (merged c.args.order c.args.table.now (drop 1 newer)) c.pass_heads.ensures.older
          ∙ dropped.0
          ∙ c.loop-self.invariant.same;
    }

pub returns-then-is_newer_first-clause-named : goal.returns-then-is_newer_first-clause-named
returns-then-is_newer_first-clause-named c =
    record {
      newer =
          subst (All (λ x. IsMember c.args.order c.args.table.now (changing x))) (sym c.pop_newer.ensures.newer)
          (All-drop (λ x. IsMember c.args.order c.args.table.now (changing x)) 1 c.loop-self.self.newer.now
          c.loop-self.invariant.named.newer);
      older =
          subst (All (λ x. IsMember c.args.order c.args.table.now (changing x))) (sym c.pop_newer.ensures.older)
          c.loop-self.invariant.named.older;
    }

pub returns-then-is_newer_first-clause-first : goal.returns-then-is_newer_first-clause-first
returns-then-is_newer_first-clause-first c =
    sym c.loop-self.invariant.same
    ∙ newer_taken c.args.order c.args.table.now c.loop-self.self.newer.now c.loop-self.self.older.now c.pop_newer.result
    (sym c.is_newer_first.ensures ∙ c.if-is_newer_first.true) c.pop_newer.ensures.first
    ∙ ap (λ (l : List Change). first_and c.pop_newer.result (merged c.args.order c.args.table.now l c.loop-self.self.older.now))
    (sym c.pop_newer.ensures.newer)
    ∙ ap (λ (l : List Change). first_and c.pop_newer.result (merged c.args.order c.args.table.now c.pop_newer.new.self.newer.now l))
    (sym c.pop_newer.ensures.older)

pub returns-else-is_newer_first-clause-named : goal.returns-else-is_newer_first-clause-named
returns-else-is_newer_first-clause-named c =
    record {
      newer =
          subst (All (λ x. IsMember c.args.order c.args.table.now (changing x))) (sym c.pop_older.ensures.newer)
          c.loop-self.invariant.named.newer;
      older =
          subst (All (λ x. IsMember c.args.order c.args.table.now (changing x))) (sym c.pop_older.ensures.older)
          (All-drop (λ x. IsMember c.args.order c.args.table.now (changing x)) 1 c.loop-self.self.older.now
          c.loop-self.invariant.named.older);
    }

pub returns-else-is_newer_first-clause-first : goal.returns-else-is_newer_first-clause-first
returns-else-is_newer_first-clause-first c =
    sym c.loop-self.invariant.same
    ∙ older_taken c.args.order c.args.table.now c.loop-self.self.newer.now c.loop-self.self.older.now c.pop_older.result
    (sym c.heads_meet.ensures ∙ c.loop-self-test.false) (sym c.is_newer_first.ensures ∙ c.if-is_newer_first.false)
    c.pop_older.ensures.first
    ∙ ap (λ (l : List Change). first_and c.pop_older.result (merged c.args.order c.args.table.now l (drop 1 c.loop-self.self.older.now)))
    (sym c.pop_older.ensures.newer)
    ∙ ap (λ (l : List Change). first_and c.pop_older.result (merged c.args.order c.args.table.now c.pop_older.new.self.newer.now l))
    (sym c.pop_older.ensures.older)
