use Rattle.std.proofs.Common.{length, ap, arith}
use Rattle.disk_log.proofs.Keeping.{keeps-opened}
use Rattle.disk_log.proofs.logs.DiskLog.of.Goals as goal

pub returns-clause-keeps : goal.returns-clause-keeps
returns-clause-keeps g c = λ records h keeps stands.
    keeps-opened g.D.Disk.bytes g.D.Disk.images g.D.Disk.faults g.D.Disk.moment g.D.Disk.images_since g.met.D.Disk.only_now records h _
    keeps c.requires stands

pub returns-clause-room : goal.returns-clause-room
returns-clause-room g c = λ records keeps. omega (arith, keeps.gate, ap length c.requires, c.args.journal.room)
