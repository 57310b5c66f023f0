use Rattle.std.proofs.Common.{◌≡◌, ◌++◌, Bor, drop}
use Rattle.std.specs.Prelude.{map}
use Rattle.fb_values.specs.declared.facts.Datom.{Datom}
use Rattle.fb_scan.proofs.scans.copies.Given as goal

abbrev pub invariant-loop-d : goal.invariant-loop-d
invariant-loop-d l = l.list.items ++ map (λ (d : Bor Datom). d.now) (drop l.d-index l.datoms) ≡ map (λ (d : Bor Datom). d.now) l.datoms
