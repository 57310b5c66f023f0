use Rattle.edn_model.proofs.OneAnswer.{no_fault_at_form}
use Rattle.edn_model.proofs.reading.no_fault_at_a_form.Goals as goal

pub returns : goal.returns
returns c = λ bytes at f to why byte h k. no_fault_at_form h k
