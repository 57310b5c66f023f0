-- By the laws that every lawful history keeps.
use Rattle.fb_model.proofs.Invariants.{one_value, one_holder}
use Rattle.fb_model.proofs.schema.one_value_and_one_holder.Goals as goal

pub returns-clause-one_value : goal.returns-clause-one_value
returns-clause-one_value c = one_value

pub returns-clause-one_holder : goal.returns-clause-one_holder
returns-clause-one_holder c = one_holder
