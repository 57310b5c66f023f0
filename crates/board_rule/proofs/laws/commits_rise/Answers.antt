use Rattle.board_rule.proofs.Commits.{commits_rise}
use Rattle.board_rule.proofs.laws.commits_rise.Goals as goal

pub returns : goal.returns
returns c = commits_rise
