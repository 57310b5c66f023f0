use Rattle.edn_duplicates.specs.Order.{token_total}
use Rattle.edn_duplicates.proofs.Tokens.{token_exact}
use Rattle.edn_duplicates.proofs.laws.tokens_are_ordered.Goals as goal

pub returns : goal.returns
returns c = record { total = token_total; exact = token_exact }
