use Rattle.edn_model.proofs.OnePlace.{no_form_in_gap}
use Rattle.edn_model.proofs.reading.no_form_in_a_gap.Goals as goal

pub returns : goal.returns
returns c = λ bytes at f next only h. no_form_in_gap bytes at f next only h
