use Rattle.std.proofs.Common.{sym, subst}
use Rattle.real_ports.specs.AnyDisks.{may_leave}
use Rattle.real_ports.specs.declared.disks.AnyDisk.{AnyDisk}
use Rattle.real_ports.proofs.disks.AnyDiskDisk.cut.Goals as goal

pub returns-in-File-clause-crash : goal.returns-in-File-clause-crash
returns-in-File-clause-crash c = λ image left.
    let from = c.cut.ensures.crash image left in
    (from.0, subst (λ (d : AnyDisk). may_leave d from.0) (sym c.in-File.is) from.1, from.2)
