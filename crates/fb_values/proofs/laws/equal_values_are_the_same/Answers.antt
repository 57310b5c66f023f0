use Rattle.fb_values.specs.OrderLaws.{value_cmp-IsAntisymmetric}
use Rattle.fb_values.proofs.laws.equal_values_are_the_same.Goals as goal

pub returns : goal.returns
returns c = value_cmp-IsAntisymmetric _ _ c.requires
