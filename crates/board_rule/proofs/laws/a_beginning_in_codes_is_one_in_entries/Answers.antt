use Rattle.board_rule.proofs.Codes.{starts_inj}
use Rattle.board_rule.proofs.laws.a_beginning_in_codes_is_one_in_entries.Goals as goal

pub returns : goal.returns
returns g c = starts_inj g.row.A.coded
