-- By the lemmas on one more entry.
use Rattle.fb_model.proofs.OneMoreEntry.{unused, holds-unused}
use Rattle.fb_model.proofs.growth.new_users_have_no_facts.Goals as goal

pub returns-clause-no_datom : goal.returns-clause-no_datom
returns-clause-no_datom c = unused

pub returns-clause-no_fact : goal.returns-clause-no_fact
returns-clause-no_fact c = holds-unused
