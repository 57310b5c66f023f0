use Rattle.std.proofs.Common.{Bor, length, map}
use Rattle.fb_values.specs.declared.facts.Datom.{Datom}
use Rattle.fb_scan.specs.Steps.{HasGiven}
use Rattle.fb_scan.proofs.Stepping.{IsUpto}
use Rattle.fb_scan.proofs.walk.lend.Given as goal

abbrev pub invariant-loop-scan : goal.invariant-loop-scan
invariant-loop-scan g l = record {
  given : HasGiven l.db (g.S.Selector.selects l.db.filter) l.from l.end l.scan (map (λ (d : Bor Datom). d.now) l.found.items);
  upto : IsUpto l.most (map (λ (d : Bor Datom). d.now) l.found.items);
}

abbrev pub decreases-loop-scan : goal.decreases-loop-scan
decreases-loop-scan g l = length l.scan.walk
