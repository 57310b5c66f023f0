-- By the lemmas on the newest root.
use Rattle.log_model.proofs.KeptRoots.{one_newest, one_coverage, coverage-within}
use Rattle.log_model.proofs.merges.one_root_is_the_newest_that_agrees.Goals as goal

pub returns-clause-root : goal.returns-clause-root
returns-clause-root c = one_newest

pub returns-clause-coverage : goal.returns-clause-coverage
returns-clause-coverage c = one_coverage

pub returns-clause-within : goal.returns-clause-within
returns-clause-within c = coverage-within
