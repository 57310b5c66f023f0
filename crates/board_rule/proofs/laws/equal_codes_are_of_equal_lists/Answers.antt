use Rattle.board_rule.proofs.Codes.{codes_inj}
use Rattle.board_rule.proofs.laws.equal_codes_are_of_equal_lists.Goals as goal

pub returns : goal.returns
returns g c = codes_inj g.row.A.coded
