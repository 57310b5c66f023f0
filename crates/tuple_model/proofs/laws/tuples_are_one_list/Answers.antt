-- By the lemmas on lists of tuples.
use Rattle.tuple_model.proofs.TupleLists.{tuples-AreTuples, one_list}
use Rattle.tuple_model.proofs.laws.tuples_are_one_list.Goals as goal

pub returns-clause-computed : goal.returns-clause-computed
returns-clause-computed c = tuples-AreTuples

pub returns-clause-one : goal.returns-clause-one
returns-clause-one c = one_list
