use Rattle.std.proofs.Common.{subst, sym}
use Rattle.std.specs.Prelude.{IfOk}
use Rattle.tx_expand.specs.View.{model_ask}
use Rattle.tx_expand.specs.Faults.{Settles}
use Rattle.tx_expand.proofs.settle.settle.Goals as goal

pub returns-in-Adds : goal.returns-in-Adds
returns-in-Adds c = λ all.
    subst (λ raw. IfOk c.settle_addition.result (λ settled. Settles c.args.schema.now all (model_ask all raw) settled)) (sym c.in-Adds.is)
    (c.settle_addition.ensures all)

pub returns-in-Retracts : goal.returns-in-Retracts
returns-in-Retracts c = λ all.
    subst (λ raw. IfOk c.settle_retraction.result (λ settled. Settles c.args.schema.now all (model_ask all raw) settled))
    (sym c.in-Retracts.is) (c.settle_retraction.ensures all)

pub returns-in-Compares : goal.returns-in-Compares
returns-in-Compares c = λ all.
    subst (λ raw. IfOk c.settle_comparison.result (λ settled. Settles c.args.schema.now all (model_ask all raw) settled))
    (sym c.in-Compares.is) (c.settle_comparison.ensures all)
