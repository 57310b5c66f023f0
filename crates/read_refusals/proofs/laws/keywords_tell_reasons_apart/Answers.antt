use Rattle.read_refusals.proofs.Told.{same_keyword}
use Rattle.read_refusals.proofs.laws.keywords_tell_reasons_apart.Goals as goal

pub returns : goal.returns
returns c = same_keyword
