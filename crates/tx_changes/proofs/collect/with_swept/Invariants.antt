use Rattle.std.proofs.Common.{◌≡◌, map}
use Rattle.tx_changes.specs.declared.noted.AskedAs.TheVariants.{Swept}
use Rattle.tx_changes.specs.Noted.{as_way}
use Rattle.tx_changes.proofs.collect.with_swept.Given as goal

abbrev pub invariant-loop-asking : goal.invariant-loop-asking
invariant-loop-asking l = l.noted.items ≡ map (as_way Swept) l.yielded
