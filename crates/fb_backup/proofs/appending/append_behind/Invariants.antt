use Rattle.std.proofs.Common.{◌<◌, take}
use Rattle.fb_model.specs.History.{upto}
use Rattle.disk_log.specs.Logs.{KeepsHistory}
use Rattle.fb_backup.proofs.appending.append_behind.Given as goal

-- the log keeps the entries so far
abbrev pub invariant-loop-next : goal.invariant-loop-next
invariant-loop-next g l = record {
  some : 0 < l.next;
  kept : (begun : _)
      → KeepsHistory g.D.Disk.bytes g.D.Disk.images g.D.Disk.faults g.D.Disk.moment g.D.Disk.images_since begun (upto l.entries l.t)
      l.initial.log
      → KeepsHistory g.D.Disk.bytes g.D.Disk.images g.D.Disk.faults g.D.Disk.moment g.D.Disk.images_since begun (take l.next l.entries)
      l.log;
}
