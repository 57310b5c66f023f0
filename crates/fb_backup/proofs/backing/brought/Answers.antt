use Rattle.std.proofs.Common.{◌∙◌, ◌+◌, sym, ap, subst, arith}
use Rattle.std.proofs.lemmas.List.{length-drop}
use Rattle.disk_model.specs.Disk.{LeavesOnly}
use Rattle.disk_log.specs.Disks.{IsLogFrom}
use Rattle.disk_log.specs.Logs.{disk_in, count_in}
use Rattle.fb_backup.specs.Backups.{CountsBackup}
use Rattle.fb_backup.proofs.backing.brought.Goals as goal

pub returns-in-Ok-clause-copied : goal.returns-in-Ok-clause-copied
returns-in-Ok-clause-copied g c = omega (arith, length-drop (c.args.target.t + 1) c.args.entries.now)

pub returns-in-Ok-clause-stands : goal.returns-in-Ok-clause-stands
returns-in-Ok-clause-stands g c = λ file told image left.
    let kept = c.in-Ok.ensures.kept c.args.target.log c.requires.keeps in
    kept.disk.left file told image (subst (λ disk. g.D.Disk.images disk image) c.into_disk-log.ensures.disk left)

pub returns-in-Ok-clause-known : goal.returns-in-Ok-clause-known
returns-in-Ok-clause-known g c = λ file told.
    let kept = c.in-Ok.ensures.kept c.args.target.log c.requires.keeps in
    let now = kept.disk.known file told in
    (now.0, ap g.D.Disk.bytes c.into_disk-log.ensures.disk ∙ now.1)

pub returns-in-Ok-clause-any_moment : goal.returns-in-Ok-clause-any_moment
returns-in-Ok-clause-any_moment g c = λ file told.
    let d = g.D.Disk in
    let begun = c.args.target.log in
    let kept = c.in-Ok.ensures.kept begun c.requires.keeps in
    subst (λ disk. LeavesOnly d.moment d.images_since (disk_in begun) disk (IsLogFrom (count_in begun) c.args.entries.now))
    (sym c.into_disk-log.ensures.disk) (kept.disk.any_moment file told)

pub returns-in-Ok-clause-counted : goal.returns-in-Ok-clause-counted
returns-in-Ok-clause-counted g c =
    let kept = c.in-Ok.ensures.kept c.args.target.log c.requires.keeps in
    ap g.D.Disk.faults c.into_disk-log.ensures.disk ∙ kept.disk.unfailed

pub returns-in-Err-clause-any_moment : goal.returns-in-Err-clause-any_moment
returns-in-Err-clause-any_moment g c = λ file told.
    let d = g.D.Disk in
    let begun = c.args.target.log in
    let left = c.in-Err.ensures.stopped begun c.requires.keeps in
    subst (λ disk. LeavesOnly d.moment d.images_since (disk_in begun) disk (IsLogFrom (count_in begun) c.args.entries.now))
    (sym c.into_disk.ensures.disk) (left.any_moment file told)

pub returns-in-Err-clause-why_not : goal.returns-in-Err-clause-why_not
returns-in-Err-clause-why_not g c = (c.in-Err.ensures.stopped c.args.target.log c.requires.keeps).outside

pub returns-in-Err-clause-counted : goal.returns-in-Err-clause-counted
returns-in-Err-clause-counted g c =
    let begun = c.args.target.log in
    let left = c.in-Err.ensures.stopped begun c.requires.keeps in
    subst (λ disk. CountsBackup c.in-Err.fault (g.D.Disk.faults (disk_in begun)) (g.D.Disk.faults disk)) (sym c.into_disk.ensures.disk)
    left.counted
