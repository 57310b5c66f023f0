use Rattle.read_model.proofs.Reading.{range_one, range_is}
use Rattle.read_model.proofs.laws.ranges_are_read_in_one_way.Goals as goal

pub returns-clause-one : goal.returns-clause-one
returns-clause-one g c = λ h w a start end x y. range_one h w _ a start end x y

pub returns-clause-computed : goal.returns-clause-computed
returns-clause-computed g c = range_is
