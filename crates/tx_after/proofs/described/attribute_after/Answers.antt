use Rattle.std.proofs.Common.{◌∙◌, ap}
use Rattle.tx_after.specs.Said.{attribute_of}
use Rattle.tx_after.proofs.Results.{IfOk-map}
use Rattle.tx_after.proofs.described.attribute_after.Goals as goal

pub returns : goal.returns
returns g c =
    let is = ap (λ said. attribute_of said c.args.e) c.in_ok-said.ensures in
    IfOk-map _ _ (λ found same. same ∙ is) c.attribute_of.result c.attribute_of.ensures
