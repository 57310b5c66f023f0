use Rattle.read_model.proofs.Reading.{components_one, components_is}
use Rattle.read_model.proofs.laws.components_are_read_in_one_way.Goals as goal

pub returns-clause-one : goal.returns-clause-one
returns-clause-one g c = λ h w order fs x y. components_one h w _ order fs x y

pub returns-clause-computed : goal.returns-clause-computed
returns-clause-computed g c = components_is
