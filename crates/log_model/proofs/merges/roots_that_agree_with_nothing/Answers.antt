-- By the lemmas on roots.
use Rattle.log_model.proofs.KeptRoots.{nothing-kept, above-the-basis}
use Rattle.log_model.proofs.merges.roots_that_agree_with_nothing.Goals as goal

pub returns-clause-nothing_kept : goal.returns-clause-nothing_kept
returns-clause-nothing_kept c = nothing-kept

pub returns-clause-above_the_basis : goal.returns-clause-above_the_basis
returns-clause-above_the_basis c = above-the-basis
