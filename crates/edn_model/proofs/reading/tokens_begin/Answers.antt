use Rattle.edn_model.proofs.TokenFronts.{no_token_of, token_of}
use Rattle.edn_model.proofs.reading.tokens_begin.Goals as goal

pub returns-clause-some : goal.returns-clause-some
returns-clause-some c = token_of

pub returns-clause-none : goal.returns-clause-none
returns-clause-none c = no_token_of
