use Rattle.std.proofs.Common.{◌≡◌, drop, map}
use Rattle.tx_model.specs.Step.{first_refusal}
use Rattle.tx_rules.specs.Cas.{acts_of}
use Rattle.tx_rules.specs.Rules.{Asked, with_first}
use Rattle.tx_rules.proofs.rules.least_of.Given as goal

abbrev pub invariant-loop-rule : goal.invariant-loop-rule
invariant-loop-rule g l =
    let asked : Asked =
    record { history = g.F.Facts.history l.facts; schema = l.schema; forms = acts_of l.forms; triples = l.triples; changes = l.changes } in
    first_refusal (map (with_first asked) (drop l.rule-index l.rules)) ≡ first_refusal (map (with_first asked) l.rules)
