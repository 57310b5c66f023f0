-- By the lemmas on lists one within the other.
use Rattle.fb_model.specs.History.{upto}
use Rattle.log_model.proofs.CountedLists.{counted, length_upto}
use Rattle.log_model.proofs.trees.a_counted_list_is_the_index.Goals as goal

pub returns : goal.returns
returns c = record { counted = λ h c order. counted (upto h c) order; len = length_upto }
