-- Each text is computed.
use Rattle.std.proofs.Common.{[], ◌∷◌, pos, true, Some, None, refl}
use Rattle.std.specs.Prelude.{codes}
use Rattle.std.specs.Fmt.{digits}
use Rattle.fb_values.specs.declared.facts.Value.TheVariants.{Str, Long}
use Rattle.fb_numbers.specs.Numbers.{user_entity, doc}
use Rattle.fb_model.specs.Facts.{facts}
use Rattle.view_model.specs.Samples.{datom, texts}
use Rattle.talk_model.specs.Replies.{receipt, basis_reply, done_reply, datoms_reply, transactions_reply, with_reply, tuples_reply}
use Rattle.talk_model.specs.Replies.{refusal_reply, fault_reply}
use Rattle.talk_model.proofs.PlainText.{line}
use Rattle.talk_model.proofs.replies.lines_of_replies.Goals as goal

pub returns-clause-two_tempids : goal.returns-clause-two_tempids
unfolding digits
returns-clause-two_tempids c = line (receipt 1 ((codes "x", user_entity 1) ∷ (codes "y", user_entity 2) ∷ [])) _ refl refl

pub returns-clause-no_tempid : goal.returns-clause-no_tempid
unfolding digits
returns-clause-no_tempid c = line (receipt 2 []) _ refl refl

pub returns-clause-basis : goal.returns-clause-basis
unfolding digits
returns-clause-basis c = line (basis_reply 3) _ refl refl

pub returns-clause-done : goal.returns-clause-done
unfolding digits
returns-clause-done c = line (done_reply 3) _ refl refl

pub returns-clause-datoms : goal.returns-clause-datoms
unfolding digits
returns-clause-datoms c = line (datoms_reply 1 (facts texts) (datom (user_entity 1) doc (Str (codes "hi")) 1 true ∷ [])) _ refl refl

pub returns-clause-no_datom : goal.returns-clause-no_datom
unfolding digits
returns-clause-no_datom c = line (datoms_reply 0 (facts texts) []) _ refl refl

pub returns-clause-no_transaction : goal.returns-clause-no_transaction
unfolding digits
returns-clause-no_transaction c = line (transactions_reply 0 (facts texts) []) _ refl refl

pub returns-clause-tried : goal.returns-clause-tried
unfolding digits
returns-clause-tried c = line (with_reply 1 (record { t = 2; tempids = [] } ∷ []) (basis_reply 2)) _ refl refl

pub returns-clause-a_tuple : goal.returns-clause-a_tuple
unfolding digits
returns-clause-a_tuple c =
    line (tuples_reply 2 (record { tuple = Some (Long (pos 1)) ∷ None ∷ []; e = user_entity 4 } ∷ [])) _ refl refl

pub returns-clause-no_tuple : goal.returns-clause-no_tuple
unfolding digits
returns-clause-no_tuple c = line (tuples_reply 2 []) _ refl refl

pub returns-clause-refused : goal.returns-clause-refused
unfolding digits
returns-clause-refused c = line (refusal_reply (codes "read/bad-point") 1 3) _ refl refl

pub returns-clause-not_taken : goal.returns-clause-not_taken
unfolding digits
returns-clause-not_taken c = line (fault_reply (codes "log") 4 3) _ refl refl

pub returns-clause-stopped : goal.returns-clause-stopped
unfolding digits
returns-clause-stopped c = line (fault_reply (codes "log-stopped") 4 3) _ refl refl
