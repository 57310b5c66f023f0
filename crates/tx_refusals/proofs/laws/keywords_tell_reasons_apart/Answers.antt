use Rattle.tx_refusals.proofs.Told.{same_keyword}
use Rattle.tx_refusals.proofs.laws.keywords_tell_reasons_apart.Goals as goal

pub returns : goal.returns
returns c = same_keyword
