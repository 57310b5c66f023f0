use Rattle.board_rule.proofs.Commits.{entry_commits}
use Rattle.board_rule.proofs.laws.each_entry_is_a_commit_of_its_author.Goals as goal

pub returns : goal.returns
returns c = entry_commits
