-- By the lemmas on absent attributes.
use Rattle.pull_model.proofs.Absent.{hidden, no_attribute}
use Rattle.pull_model.proofs.laws.a_hidden_attribute_is_absent.Goals as goal

pub returns-clause-hidden : goal.returns-clause-hidden
returns-clause-hidden c = hidden

pub returns-clause-no_attribute : goal.returns-clause-no_attribute
returns-clause-no_attribute c = no_attribute
