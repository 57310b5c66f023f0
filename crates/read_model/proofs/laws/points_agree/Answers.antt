use Rattle.read_model.proofs.Ends.{end-t, end-before}
use Rattle.read_model.proofs.laws.points_agree.Goals as goal

pub returns-clause-numbers : goal.returns-clause-numbers
returns-clause-numbers c = end-t

pub returns-clause-instants : goal.returns-clause-instants
returns-clause-instants c = end-before
