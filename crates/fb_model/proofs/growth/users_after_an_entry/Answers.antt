-- By the lemmas on one more entry.
use Rattle.fb_model.proofs.OneMoreEntry.{users_issued-push, users_issued_grows}
use Rattle.fb_model.proofs.growth.users_after_an_entry.Goals as goal

pub returns-clause-users : goal.returns-clause-users
returns-clause-users c = users_issued-push

pub returns-clause-never_falls : goal.returns-clause-never_falls
returns-clause-never_falls c = users_issued_grows
