use Rattle.board_rule.proofs.Tried.{tried_all}
use Rattle.board_rule.proofs.laws.each_session_is_tried.Goals as goal

pub returns : goal.returns
returns c = tried_all
