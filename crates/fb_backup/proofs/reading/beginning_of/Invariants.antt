use Rattle.std.proofs.Common.{◌≡◌}
use Rattle.fb_journal.specs.Readings.{disk_from, left_in}
use Rattle.fb_backup.proofs.Records.{Follows}
use Rattle.fb_backup.proofs.reading.beginning_of.Given as goal

abbrev pub invariant-loop-payload : goal.invariant-loop-payload
invariant-loop-payload g l = record {
  faults : g.D.Disk.faults (disk_from l.log) ≡ g.D.Disk.faults (disk_from l.initial.log);
  follows : Follows g.D.Disk.bytes g.D.Disk.images g.D.Disk.moment g.D.Disk.images_since l.entries l.initial.log l.log l.compared;
}

abbrev pub decreases-loop-payload : goal.decreases-loop-payload
decreases-loop-payload g l = left_in l.log
