use Rattle.std.proofs.Common.{◌∙◌}
use Rattle.merge_worker.proofs.catching_up.catch_up.Goals as goal

pub returns-in_err-catches_up-clause-trees : goal.returns-in_err-catches_up-clause-trees
returns-in_err-catches_up-clause-trees g c = λ trees n of. c.catches_up.ensures.trees trees n (c.loop.invariant.3 trees n of)

pub returns-then-not-branch-clause-trees : goal.returns-then-not-branch-clause-trees
returns-then-not-branch-clause-trees g c = λ trees n of. c.catches_up.ensures.trees trees n (c.loop.invariant.3 trees n of)

pub loop-preserved : goal.loop-preserved
loop-preserved g c =
    let inv = c.loop.invariant in let e = c.catches_up.ensures in let ahead = c.in_ok-catches_up.ensures.ahead in (
      e.seat,
      (e.same.0 ∙ inv.1.0, e.same.1 ∙ inv.1.1),
      e.covered ∙ inv.2,
      (λ trees n of. e.trees trees n (inv.3 trees n of)),
      e.turn,
      ahead.0,
      ahead.1 ∙ inv.6,
    )
