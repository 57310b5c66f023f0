use Rattle.seg_store.proofs.Storable.{all_dated}
use Rattle.seg_store.proofs.laws.trees_of_a_lawful_history_are_storable.Goals as goal

pub returns : goal.returns
returns c = all_dated
