use Rattle.edn_model.proofs.Numerals.{integer_text_is}
use Rattle.edn_model.proofs.printing.integers.Goals as goal

pub returns : goal.returns
returns c = integer_text_is
