-- By the lemmas on database values.
use Rattle.pull_model.proofs.Views.{not_without_a_list, not_unequal}
use Rattle.pull_model.proofs.laws.a_view_is_not_without_a_list.Goals as goal

pub returns-clause-list : goal.returns-clause-list
returns-clause-list g c = λ h w. not_without_a_list h w _

pub returns-clause-answers : goal.returns-clause-answers
returns-clause-answers g c = λ h w. not_unequal h w _
