use Rattle.std.proofs.Common.{◌≡◌, drop, map}
use Rattle.std.specs.List.{list_any}
use Rattle.tx_model.specs.Step.{first_yes}
use Rattle.tx_rules.specs.Cas.{finds_another, acts_of}
use Rattle.tx_rules.proofs.cas.first_failed.Given as goal

abbrev pub invariant-loop-place : goal.invariant-loop-place
invariant-loop-place g l =
    first_yes l.place (map (list_any (finds_another (g.F.Facts.history l.facts))) (acts_of (drop l.place l.forms)))
    ≡ first_yes 0 (map (list_any (finds_another (g.F.Facts.history l.facts))) (acts_of l.forms))
