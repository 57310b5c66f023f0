use Rattle.edn_print.proofs.Texts.{has_text, one_text}
use Rattle.edn_print.proofs.laws.one_canonical_text.Goals as goal

pub returns-clause-exists : goal.returns-clause-exists
returns-clause-exists c = has_text

pub returns-clause-one : goal.returns-clause-one
returns-clause-one c = one_text
