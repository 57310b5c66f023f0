use Rattle.std.proofs.Common.{◌≡◌, ◌++◌, subst}
use Rattle.std.specs.Prelude.{IfOk}
use Rattle.tx_expand.specs.View.{model_name, model_asks}
use Rattle.tx_expand.proofs.links.scalar_link.Goals as goal

pub returns-clause-asks : goal.returns-clause-asks
returns-clause-asks c = λ all.
    subst (λ asks. IfOk c.link.result (λ _. model_asks all c.link.new.out ≡ model_asks all c.args.out.now ++ asks))
    (c.scalar_part.ensures all (model_name all c.args.this)) (c.link.ensures.asks all)
