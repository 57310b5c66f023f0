-- By the lemmas on lawful histories.
use Rattle.fb_model.proofs.LawfulHistories.{IsLawful-push, IsLawful-pop}
use Rattle.fb_model.proofs.lawful.lawful_entries_make_lawful_histories.Goals as goal

pub returns-clause-made : goal.returns-clause-made
returns-clause-made c = IsLawful-push

pub returns-clause-taken_apart : goal.returns-clause-taken_apart
returns-clause-taken_apart c = IsLawful-pop
