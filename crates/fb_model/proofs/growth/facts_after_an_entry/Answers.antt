-- By the lemmas on one more entry.
use Rattle.fb_model.proofs.OneMoreEntry.{holds-push}
use Rattle.fb_model.proofs.growth.facts_after_an_entry.Goals as goal

pub returns-clause-holds : goal.returns-clause-holds
returns-clause-holds c = holds-push
