use Rattle.std.proofs.Common.{◌≤◌, List, length}
use Rattle.fb_values.specs.declared.facts.Datom.{Datom}
use Rattle.fb_values.specs.declared.indexes.Probe.{Probe}
use Rattle.fb_db.specs.declared.db.Db.{Db}
use Rattle.fb_scan.specs.declared.ends.End.{End}
use Rattle.fb_scan.specs.Steps.{HasGiven}
use Rattle.fb_scan.proofs.walk.Scan.next.Given as goal

abbrev pub invariant-loop-datom : goal.invariant-loop-datom
invariant-loop-datom g l = record {
  goes : (db : Db g.row.S.Denot) (from : Probe) (end : End) (found : List Datom)
      → HasGiven db (g.S.Selector.selects db.filter) from end l.fn.self found
      → HasGiven db (g.S.Selector.selects db.filter) from end l.self found;
  less : length l.self.walk ≤ length l.fn.self.walk;
}

abbrev pub decreases-loop-datom : goal.decreases-loop-datom
decreases-loop-datom g l = length l.self.walk
