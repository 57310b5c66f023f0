use Rattle.std.proofs.Common.{length, take, drop, ◌+◌, ◌-◌, ◌≡◌, ◌≤◌}
use Rattle.disk_model.specs.Disk.{Within, IfKnown, LeavesOnly}
use Rattle.fb_journal.proofs.reads.fill.Given as goal

abbrev pub invariant-loop-filled : goal.invariant-loop-filled
invariant-loop-filled g l = record {
  within : l.filled ≤ length l.buf;
  bytes : g.D.Disk.bytes l.disk ≡ g.D.Disk.bytes l.initial.disk;
  faults : g.D.Disk.faults l.disk ≡ g.D.Disk.faults l.initial.disk;
  crash : Within (g.D.Disk.images l.initial.disk) (g.D.Disk.images l.disk);
  any_moment : LeavesOnly g.D.Disk.moment g.D.Disk.images_since l.initial.disk l.disk (g.D.Disk.images l.initial.disk);
  read : IfKnown (g.D.Disk.bytes l.initial.disk) (λ file. l.fn.at + length l.buf ≤ length file
      → take l.filled l.buf ≡ take l.filled (drop l.fn.at file));
}

abbrev pub decreases-loop-filled : goal.decreases-loop-filled
decreases-loop-filled g l = length l.initial.buf - l.filled
