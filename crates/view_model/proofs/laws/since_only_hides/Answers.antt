-- By the lemma on since.
use Rattle.view_model.proofs.Views.{since_revives_none}
use Rattle.view_model.proofs.laws.since_only_hides.Goals as goal

pub returns : goal.returns
returns c = since_revives_none
