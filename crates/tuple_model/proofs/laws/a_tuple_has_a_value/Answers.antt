-- Both say that it has a value of one of the attributes.
use Rattle.tuple_model.proofs.SeenRows.{has_one_of-some}
use Rattle.tuple_model.proofs.laws.a_tuple_has_a_value.Goals as goal

pub returns : goal.returns
returns c = has_one_of-some
