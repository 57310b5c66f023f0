use Rattle.edn_model.proofs.Alike.{alike-self}
use Rattle.edn_model.proofs.reading.alike_itself.Goals as goal

pub returns : goal.returns
returns c = alike-self
