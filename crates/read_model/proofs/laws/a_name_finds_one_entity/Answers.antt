use Rattle.read_model.proofs.Finding.{named_one}
use Rattle.read_model.proofs.laws.a_name_finds_one_entity.Goals as goal

pub returns : goal.returns
returns g c = λ h w id x y. named_one h w _ id x y
