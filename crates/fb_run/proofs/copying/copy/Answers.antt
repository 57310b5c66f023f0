use Rattle.std.proofs.Common.{refl, subst, sym}
use Rattle.fb_run.specs.Outside.{disks_of}
use Rattle.fb_run.specs.Copying.{LeavesBeginnings}
use Rattle.fb_run.proofs.Backups.{ends_copy}
use Rattle.fb_run.proofs.copying.copy.Goals as goal

pub returns-in-Ok-clause-ended : goal.returns-in-Ok-clause-ended
returns-in-Ok-clause-ended g c =
    let disks = disks_of g.D.Disk.bytes g.D.Disk.faults g.D.Disk.images g.D.Disk.moment g.D.Disk.images_since in
    let out = c.copy_trees.ensures in
    ends_copy disks c.args.snapshot.now c.args.target c.copy_trees.result.target c.in-Ok.field-0.copied c.copy_trees.result.end c.in-Ok.field-0.log out.log
    c.in-Ok.ensures.copied c.in-Ok.ensures.stands c.in-Ok.ensures.counted out.ended

pub returns-in-Ok-clause-beginnings : goal.returns-in-Ok-clause-beginnings
returns-in-Ok-clause-beginnings g c =
    let disks = disks_of g.D.Disk.bytes g.D.Disk.faults g.D.Disk.images g.D.Disk.moment g.D.Disk.images_since in
    subst (λ d. LeavesBeginnings disks c.args.snapshot.now.entries c.args.target.log d) (sym c.copy_trees.ensures.log)
    c.in-Ok.ensures.any_moment

pub returns-in-Err-clause-ended : goal.returns-in-Err-clause-ended
returns-in-Err-clause-ended g c =
    record { untouched = refl; why = c.in-Err.ensures.why_not; refused = c.in-Err.ensures.untouched; counted = c.in-Err.ensures.counted }

pub returns-in-Err-clause-beginnings : goal.returns-in-Err-clause-beginnings
returns-in-Err-clause-beginnings g c = c.in-Err.ensures.any_moment
