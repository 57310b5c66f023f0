-- By the lemmas on what is read.
use Rattle.tuple_model.proofs.Reading.{given_is_composite, bound_is_bound}
use Rattle.tuple_model.proofs.laws.what_is_given_fits.Goals as goal

pub returns-clause-composite : goal.returns-clause-composite
returns-clause-composite c = given_is_composite

pub returns-clause-bound : goal.returns-clause-bound
returns-clause-bound c = bound_is_bound
