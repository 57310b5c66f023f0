use Rattle.edn_model.proofs.OneAnswer.{no_fault_in_gap}
use Rattle.edn_model.proofs.reading.no_fault_in_a_gap.Goals as goal

pub returns : goal.returns
returns c = λ bytes at why byte h k. no_fault_in_gap bytes at byte why h k
