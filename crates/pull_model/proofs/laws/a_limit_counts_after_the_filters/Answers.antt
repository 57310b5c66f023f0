-- By the lemma on plain values.
use Rattle.pull_model.proofs.Absent.{plain_values}
use Rattle.pull_model.proofs.laws.a_limit_counts_after_the_filters.Goals as goal

pub returns : goal.returns
returns c = plain_values
