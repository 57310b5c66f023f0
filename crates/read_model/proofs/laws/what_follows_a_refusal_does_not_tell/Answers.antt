use Rattle.read_model.proofs.Reading.{components_on}
use Rattle.read_model.proofs.laws.what_follows_a_refusal_does_not_tell.Goals as goal

pub returns : goal.returns
returns g c = λ h w order fs more r. components_on h w _ order fs more r
