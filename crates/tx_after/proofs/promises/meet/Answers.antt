use Rattle.tx_after.proofs.Promising.{HasValues-cons}
use Rattle.tx_after.proofs.promises.meet.Goals as goal

pub returns-clause-met : goal.returns-clause-met
returns-clause-met c =
    λ ds has.
    HasValues-cons c.args.met.now c.insert.new.self c.args.d.now ds (rw c.in_ok-copy.ensures at c.in_ok-insert.ensures.updates) has
