use Rattle.board_rule.proofs.Joins.{starts_further}
use Rattle.board_rule.proofs.laws.a_beginning_of_a_beginning_is_one.Goals as goal

pub returns : goal.returns
returns g c = starts_further
