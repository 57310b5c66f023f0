use Rattle.tx_after.proofs.Describing.{values-own, attribute-own, whole-own}
use Rattle.tx_after.proofs.laws.what_is_said_of_an_entity_is_in_its_facts.Goals as goal

pub returns-clause-values : goal.returns-clause-values
returns-clause-values c = values-own

pub returns-clause-attribute : goal.returns-clause-attribute
returns-clause-attribute c = attribute-own

pub returns-clause-whole : goal.returns-clause-whole
returns-clause-whole c = whole-own
