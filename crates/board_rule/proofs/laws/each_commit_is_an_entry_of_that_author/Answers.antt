use Rattle.board_rule.proofs.Commits.{commit_entries}
use Rattle.board_rule.proofs.laws.each_commit_is_an_entry_of_that_author.Goals as goal

pub returns : goal.returns
returns c = commit_entries
