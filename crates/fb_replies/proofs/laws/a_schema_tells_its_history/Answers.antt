use Rattle.fb_model.specs.Facts.{facts}
use Rattle.fb_replies.proofs.Said.{datoms_reply_same, transactions_reply_same}
use Rattle.fb_replies.proofs.laws.a_schema_tells_its_history.Goals as goal

pub returns-clause-datoms : goal.returns-clause-datoms
returns-clause-datoms c =
    λ basis schema h ds stands.
    datoms_reply_same basis schema (facts h) ds (λ e. c.schemas_tell_of_attributes.ensures.attribute schema h e stands)

pub returns-clause-transactions : goal.returns-clause-transactions
returns-clause-transactions c = λ basis schema h entries stands.
    transactions_reply_same basis schema (facts h) entries (λ e. c.schemas_tell_of_attributes.ensures.attribute schema h e stands)
