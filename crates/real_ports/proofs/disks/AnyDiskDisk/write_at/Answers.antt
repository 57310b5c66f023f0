use Rattle.std.proofs.Common.{sym, subst}
use Rattle.disk_model.specs.Disk.{Elapses}
use Rattle.mem_ports.specs.MemDisks.{moment_of}
use Rattle.real_ports.specs.AnyDisks.{may_leave, moment_at, may_have_left}
use Rattle.real_ports.specs.declared.disks.AnyDisk.{AnyDisk}
use Rattle.real_ports.specs.declared.disks.AnyDisk.TheVariants.{InMemory}
use Rattle.real_ports.proofs.disks.AnyDiskDisk.write_at.Goals as goal

pub returns-in-File-clause-crash : goal.returns-in-File-clause-crash
returns-in-File-clause-crash c = λ image left.
    let from = c.write_at.ensures.crash image left in
    (from.0, subst (λ (d : AnyDisk). may_leave d from.0) (sym c.in-File.is) from.1, from.2)

pub returns-in-InMemory-clause-time : goal.returns-in-InMemory-clause-time
returns-in-InMemory-clause-time c =
    subst
    (λ (d : AnyDisk). Elapses (moment_at d) (moment_of c.write_at-in-InMemory.new.self) (may_have_left d)
    (may_have_left (InMemory c.write_at-in-InMemory.new.self)) (may_leave (InMemory c.write_at-in-InMemory.new.self)))
    (sym c.in-InMemory.is)
    c.write_at-in-InMemory.ensures.time
