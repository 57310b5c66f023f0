-- By the lemmas on facts of lawful histories.
use Rattle.std.proofs.lemmas.Bool.{and_parts}
use Rattle.fb_model.proofs.KnownFacts.{facts_installed, facts_typed, facts_issued, facts_referred}
use Rattle.fb_model.proofs.schema.facts_are_of_their_types.Goals as goal

pub returns-clause-installed : goal.returns-clause-installed
returns-clause-installed c = facts_installed

pub returns-clause-typed : goal.returns-clause-typed
returns-clause-typed c = facts_typed

pub returns-clause-issued : goal.returns-clause-issued
returns-clause-issued c = λ h lawful d member. (and_parts _ _ (facts_issued h lawful d member)).0

pub returns-clause-referred : goal.returns-clause-referred
returns-clause-referred c = facts_referred
