use Rattle.std.proofs.Common.{◌≡◌, ◌++◌, subst, sym}
use Rattle.std.specs.Prelude.{IfOk}
use Rattle.tx_model.specs.Walk.{need}
use Rattle.tx_expand.specs.View.{model_asks}
use Rattle.tx_expand.proofs.links.push_lack.Goals as goal

pub returns-then-lacks-clause-asks : goal.returns-then-lacks-clause-asks
returns-then-lacks-clause-asks c = λ all.
    subst (λ b. IfOk c.push.result (λ _. model_asks all c.push.new.out ≡ model_asks all c.args.out.now ++ need b)) (sym c.if-lacks.true)
    (c.push.ensures.asks all)
