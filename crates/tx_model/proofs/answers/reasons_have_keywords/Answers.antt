use Rattle.tx_model.proofs.Told.{told_by_keywords}
use Rattle.tx_model.proofs.answers.reasons_have_keywords.Goals as goal

pub returns : goal.returns
returns c = told_by_keywords
