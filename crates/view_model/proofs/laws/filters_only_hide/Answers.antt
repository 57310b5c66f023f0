-- By the lemmas on filters.
use Rattle.view_model.proofs.Views.{view-filters, filters_hide}
use Rattle.view_model.proofs.laws.filters_only_hide.Goals as goal

pub returns-clause-in_turn : goal.returns-clause-in_turn
returns-clause-in_turn c = view-filters

pub returns-clause-hides : goal.returns-clause-hides
returns-clause-hides c = filters_hide
