use Rattle.tx_changes.proofs.KnownValues.{knows_more}
use Rattle.tx_changes.proofs.learnt.learn.Goals as goal

pub returns-clause-known : goal.returns-clause-known
returns-clause-known g c =
    knows_more (g.F.Facts.history c.args.facts.now) c.args.learnt.now c.insert.new.self c.args.e c.args.a c.in_ok-values_of.field-0
    c.in_ok-insert.ensures.updates c.in_ok-values_of.ensures c.requires
