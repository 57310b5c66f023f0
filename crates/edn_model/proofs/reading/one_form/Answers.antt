use Rattle.edn_model.proofs.OnePlace.{one_whole}
use Rattle.edn_model.proofs.reading.one_form.Goals as goal

pub returns : goal.returns
returns c = λ bytes f g h k. one_whole bytes f g h k
