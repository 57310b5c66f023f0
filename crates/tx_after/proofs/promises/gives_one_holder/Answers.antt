use Rattle.std.proofs.Common.{◌∙◌, ap}
use Rattle.tx_after.specs.Promises.{are_of_other_values}
use Rattle.tx_after.proofs.Results.{IfOk-map}
use Rattle.tx_after.proofs.Promising.{other_values-is}
use Rattle.tx_after.proofs.promises.gives_one_holder.Goals as goal

pub returns : goal.returns
returns g c =
    let is =
    ap are_of_other_values (c.deref.ensures.value ∙ c.in_ok-under.ensures)
    ∙ other_values-is (g.F.Facts.history c.args.facts.now) c.args.changes.now c.args.a in
    IfOk-map _ _ (λ are same. same ∙ is) c.are_of_other_values.result c.are_of_other_values.ensures
