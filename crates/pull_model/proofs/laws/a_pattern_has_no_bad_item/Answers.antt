-- By the lemmas on items.
use Rattle.pull_model.proofs.Items.{pattern_or_bad_item}
use Rattle.pull_model.proofs.laws.a_pattern_has_no_bad_item.Goals as goal

pub returns : goal.returns
returns c = pattern_or_bad_item
