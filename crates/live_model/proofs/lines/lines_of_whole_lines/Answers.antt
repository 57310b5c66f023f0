use Rattle.live_model.proofs.Cutting.{lines_apart, lines_again, no_feed}
use Rattle.live_model.proofs.lines.lines_of_whole_lines.Goals as goal

pub returns-clause-apart : goal.returns-clause-apart
returns-clause-apart c = lines_apart

pub returns-clause-again : goal.returns-clause-again
returns-clause-again c = lines_again

pub returns-clause-no_feed : goal.returns-clause-no_feed
returns-clause-no_feed c = no_feed
