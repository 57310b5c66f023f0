use Rattle.std.proofs.Common.{◌≡◌}
use Rattle.fb_journal.specs.Readings.{disk_from, left_in}
use Rattle.seg_store.proofs.Finding.{Follows}
use Rattle.seg_store.proofs.loads.found_in.Given as goal

abbrev pub invariant-loop-payload : goal.invariant-loop-payload
invariant-loop-payload g l = record {
  faults : g.D.Disk.faults (disk_from l.file) ≡ g.D.Disk.faults (disk_from l.initial.file);
  follows : Follows g.D.Disk.bytes g.D.Disk.images g.D.Disk.moment g.D.Disk.images_since l.fn.wanted l.initial.file l.file l.found;
}

abbrev pub decreases-loop-payload : goal.decreases-loop-payload
decreases-loop-payload g l = left_in l.file
