use Rattle.edn_model.proofs.CanonText.{nil_text_is, boolean_text_is, symbol_text_is, keyword_text_is}
use Rattle.edn_model.proofs.printing.words.Goals as goal

pub returns-clause-nil : goal.returns-clause-nil
returns-clause-nil c = nil_text_is

pub returns-clause-boolean : goal.returns-clause-boolean
returns-clause-boolean c = boolean_text_is

pub returns-clause-symbol : goal.returns-clause-symbol
returns-clause-symbol c = symbol_text_is

pub returns-clause-keyword : goal.returns-clause-keyword
returns-clause-keyword c = keyword_text_is
