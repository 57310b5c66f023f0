use Rattle.std.proofs.Common.{[], ◌∙◌, ⊎_elim, sym, ap, subst}
use Rattle.disk_model.specs.Disk.{LeavesOnly}
use Rattle.disk_model.specs.Journal.{log_mark}
use Rattle.disk_model.proofs.Moments.{weakened}
use Rattle.fb_model.specs.History.{upto}
use Rattle.disk_log.specs.Disks.{IsLogFrom}
use Rattle.disk_log.proofs.Histories.{stands-count}
use Rattle.fb_journal.specs.Readings.{LeavesBegun}
use Rattle.fb_view.proofs.Beginnings.{upto_basis}
use Rattle.fb_backup.specs.Backups.{IsBackupCause}
use Rattle.fb_backup.proofs.Beginnings.{new-from, same-from}
use Rattle.fb_backup.proofs.Causes.{reading-cause}
use Rattle.fb_backup.proofs.reading.open_target.Goals as goal

pub returns-in-Err-clause-why_not : goal.returns-in-Err-clause-why_not
returns-in-Err-clause-why_not g c = λ file told.
    let stop = c.in-Err.field-0 in
    let h = c.args.entries.now in
    let cause = reading-cause (g.D.Disk.bytes c.args.disk) h [] stop.fault c.in-Err.ensures.why_not file told in
    subst (λ fault. IsBackupCause h fault file) (sym c.from-fault.ensures) cause

-- where a crash leaves an image from before, or a new log of a new one
pub returns-in-Err-clause-any_moment : goal.returns-in-Err-clause-any_moment
returns-in-Err-clause-any_moment g c = λ n file told were.
    let d = g.D.Disk in
    let h = c.args.entries.now in
    weakened d.moment d.images_since c.args.disk _ _ (IsLogFrom n h) (c.in-Err.ensures.any_moment file told)
    (λ image left. ⊎_elim (were image)
    (λ new. new-from h n file image new.0 new.1 (were file (g.met.D.Disk.reads_an_image c.args.disk file told))) left)

pub finish-requires : goal.finish-requires
finish-requires g c =
    let all = c.in-Ok-beginning_of.ensures.read c.args.disk c.in-Ok.ensures.begins in
    (log_mark, c.args.disk, all.0, all.1)

pub of-log-requires : goal.of-log-requires
of-log-requires g c =
    let all = c.in-Ok-beginning_of.ensures.read c.args.disk c.in-Ok.ensures.begins in
    (c.finish.ensures.keeps log_mark c.args.disk all.0 all.1).1

pub returns-in-Ok-beginning_of-clause-within : goal.returns-in-Ok-beginning_of-clause-within
returns-in-Ok-beginning_of-clause-within g c = (c.in-Ok-beginning_of.ensures.read c.args.disk c.in-Ok.ensures.begins).2

pub returns-in-Ok-beginning_of-clause-beginning : goal.returns-in-Ok-beginning_of-clause-beginning
returns-in-Ok-beginning_of-clause-beginning g c = λ file told.
    let all = c.in-Ok-beginning_of.ensures.read c.args.disk c.in-Ok.ensures.begins in
    record { records = all.0; journal = all.1.stands file told; stands = all.3 }

pub returns-in-Ok-beginning_of-clause-keeps : goal.returns-in-Ok-beginning_of-clause-keeps
returns-in-Ok-beginning_of-clause-keeps g c =
    let all = c.in-Ok-beginning_of.ensures.read c.args.disk c.in-Ok.ensures.begins in
    c.of-log.ensures.keeps all.0 (upto c.args.entries.now c.in-Ok-beginning_of.t)
    (c.finish.ensures.keeps log_mark c.args.disk all.0 all.1).0 all.3

pub returns-in-Ok-beginning_of-clause-count : goal.returns-in-Ok-beginning_of-clause-count
returns-in-Ok-beginning_of-clause-count g c =
    let all = c.in-Ok-beginning_of.ensures.read c.args.disk c.in-Ok.ensures.begins in
    let h = c.args.entries.now in
    let t = c.in-Ok-beginning_of.t in
    c.of-log.ensures.count all.0 (c.finish.ensures.keeps log_mark c.args.disk all.0 all.1).0
    ∙ stands-count all.0 (upto h t) all.3
    ∙ upto_basis h t c.requires all.2

pub returns-in-Ok-beginning_of-clause-known : goal.returns-in-Ok-beginning_of-clause-known
returns-in-Ok-beginning_of-clause-known g c = λ file told.
    let all = c.in-Ok-beginning_of.ensures.read c.args.disk c.in-Ok.ensures.begins in
    let now = all.1.read.begun file told in
    (now.0, ap g.D.Disk.bytes (c.of-log.ensures.disk ∙ c.finish.ensures.disk) ∙ now.1)

-- where a crash leaves an image from before, or one of the same records
pub returns-in-Ok-beginning_of-clause-any_moment : goal.returns-in-Ok-beginning_of-clause-any_moment
returns-in-Ok-beginning_of-clause-any_moment g c = λ n file told were.
    let d = g.D.Disk in
    let h = c.args.entries.now in
    let all = c.in-Ok-beginning_of.ensures.read c.args.disk c.in-Ok.ensures.begins in
    subst (λ disk. LeavesOnly d.moment d.images_since c.args.disk disk (IsLogFrom n h))
    (sym (c.of-log.ensures.disk ∙ c.finish.ensures.disk))
    (weakened d.moment d.images_since c.args.disk _ _ (IsLogFrom n h) (all.1.any_moment file told)
    (λ image left. ⊎_elim (were image)
    (λ stands. same-from h n file image all.0 (all.1.stands file told) stands
    (were file (g.met.D.Disk.reads_an_image c.args.disk file told))) left))

pub returns-in-Err-beginning_of-clause-any_moment : goal.returns-in-Err-beginning_of-clause-any_moment
returns-in-Err-beginning_of-clause-any_moment g c = λ n file told were.
    let d = g.D.Disk in
    let h = c.args.entries.now in
    subst (λ disk. LeavesOnly d.moment d.images_since c.args.disk disk (IsLogFrom n h)) (sym c.give_back.ensures)
    (weakened d.moment d.images_since c.args.disk _ _ (IsLogFrom n h)
    (c.beginning_of.ensures.any_moment c.args.disk c.in-Ok.ensures.begins file told)
    (λ image left. ⊎_elim (were image)
    (λ new. new-from h n file image new.0 new.1 (were file (g.met.D.Disk.reads_an_image c.args.disk file told))) left))

pub returns-in-Err-beginning_of-clause-untouched : goal.returns-in-Err-beginning_of-clause-untouched
returns-in-Err-beginning_of-clause-untouched g c =
    let d = g.D.Disk in
    subst (λ disk. LeavesBegun d.bytes d.images d.moment d.images_since c.args.disk disk) (sym c.give_back.ensures)
    (c.beginning_of.ensures.any_moment c.args.disk c.in-Ok.ensures.begins)
