use Rattle.edn_model.proofs.CanonText.{string_text_is}
use Rattle.edn_model.proofs.printing.strings.Goals as goal

pub returns : goal.returns
returns c = λ depth s bytes rest utf8 e. string_text_is depth s bytes rest utf8 e
