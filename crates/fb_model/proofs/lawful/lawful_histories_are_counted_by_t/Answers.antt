-- By the lemmas on lawful histories.
use Rattle.fb_model.proofs.LawfulHistories.{IsLawful-length, IsLawful-instant}
use Rattle.fb_model.proofs.lawful.lawful_histories_are_counted_by_t.Goals as goal

pub returns-clause-counted : goal.returns-clause-counted
returns-clause-counted c = IsLawful-length

pub returns-clause-instant : goal.returns-clause-instant
returns-clause-instant c = IsLawful-instant
