use Rattle.std.proofs.Common.{◌≡◌, drop, map}
use Rattle.std.specs.List.{list_any}
use Rattle.tx_model.specs.Step.{first_yes}
use Rattle.tx_asks.specs.Acts.{is_cas_of_many}
use Rattle.tx_rules.specs.Cas.{acts_of}
use Rattle.tx_rules.proofs.cas.first_of_many.Given as goal

abbrev pub invariant-loop-place : goal.invariant-loop-place
invariant-loop-place l =
    first_yes l.place (map (list_any is_cas_of_many) (acts_of (drop l.place l.forms)))
    ≡ first_yes 0 (map (list_any is_cas_of_many) (acts_of l.forms))
