-- By the lemmas on the least law.
use Rattle.fb_model.proofs.Invariants.{lawful-least_law, least_law-lawful}
use Rattle.fb_model.proofs.lawful.the_least_law_is_none_where_all_are_kept.Goals as goal

pub returns : goal.returns
returns c = λ h entry. (lawful-least_law h entry, least_law-lawful h entry)
