use Rattle.tx_after.proofs.Describing.{one_ident, one_type, one_cardinality, one_uniqueness, one_component, one_index}
use Rattle.tx_after.proofs.said.said_after.Goals as goal

pub value_after-requires-clause-one : goal.value_after-requires-clause-one
value_after-requires-clause-one g c = one_ident (g.F.Facts.history c.args.facts.now) c.requires.lawful

pub value_after-requires-2-clause-one : goal.value_after-requires-2-clause-one
value_after-requires-2-clause-one g c = one_type (g.F.Facts.history c.args.facts.now) c.requires.lawful

pub value_after-requires-3-clause-one : goal.value_after-requires-3-clause-one
value_after-requires-3-clause-one g c = one_cardinality (g.F.Facts.history c.args.facts.now) c.requires.lawful

pub value_after-requires-4-clause-one : goal.value_after-requires-4-clause-one
value_after-requires-4-clause-one g c = one_uniqueness (g.F.Facts.history c.args.facts.now) c.requires.lawful

pub value_after-requires-5-clause-one : goal.value_after-requires-5-clause-one
value_after-requires-5-clause-one g c = one_component (g.F.Facts.history c.args.facts.now) c.requires.lawful

pub value_after-requires-6-clause-one : goal.value_after-requires-6-clause-one
value_after-requires-6-clause-one g c = one_index (g.F.Facts.history c.args.facts.now) c.requires.lawful
