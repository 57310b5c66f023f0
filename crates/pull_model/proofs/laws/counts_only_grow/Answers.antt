-- By the lemmas on what is made.
use Rattle.pull_model.proofs.Counts.{items_grow, lists_add, told_counts}
use Rattle.pull_model.proofs.laws.counts_only_grow.Goals as goal

pub returns-clause-items : goal.returns-clause-items
returns-clause-items c = items_grow

pub returns-clause-lists : goal.returns-clause-lists
returns-clause-lists c = lists_add

pub returns-clause-each : goal.returns-clause-each
returns-clause-each c = told_counts
