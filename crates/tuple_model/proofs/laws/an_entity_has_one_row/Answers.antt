-- Its tuple is that of its facts.
use Rattle.tuple_model.proofs.TupleLists.{one_row}
use Rattle.tuple_model.proofs.laws.an_entity_has_one_row.Goals as goal

pub returns : goal.returns
returns c = one_row
