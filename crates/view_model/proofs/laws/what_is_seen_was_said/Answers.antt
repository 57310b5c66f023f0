-- By the lemma on members of views.
use Rattle.view_model.proofs.Views.{seen_is_said}
use Rattle.view_model.proofs.laws.what_is_seen_was_said.Goals as goal

pub returns-clause-said : goal.returns-clause-said
returns-clause-said c = λ h w d member. (seen_is_said h w d member).member

pub returns-clause-within : goal.returns-clause-within
returns-clause-within c = λ h w d member. (seen_is_said h w d member).passes
