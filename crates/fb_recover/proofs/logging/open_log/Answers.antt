use Rattle.std.proofs.Common.{[], ◌⊎◌, ◌∙◌, inl, inr, ⊎_elim, sym, ap, subst}
use Rattle.disk_model.specs.Disk.{LeavesOnly}
use Rattle.disk_model.specs.Journal.{log_mark}
use Rattle.disk_model.proofs.Moments.{weakened}
use Rattle.log_model.specs.Log.{IsLogOf}
use Rattle.fb_journal.specs.Readings.{LeavesBegun}
use Rattle.disk_log.proofs.Histories.{stands-count}
use Rattle.fb_recover.specs.Faults.{IsCause}
use Rattle.fb_recover.proofs.Causes.{reading-cause}
use Rattle.fb_recover.proofs.logging.open_log.Goals as goal

pub returns-in-Err-clause-why_not : goal.returns-in-Err-clause-why_not
returns-in-Err-clause-why_not g c = λ file told.
    let stop = c.in-Err.field-0 in
    let cause = reading-cause (g.D.Disk.bytes c.args.disk) stop.fault [] c.in-Err.ensures.why_not file told in
    subst (λ fault. IsCause fault file) (sym c.from-fault.ensures) cause

pub finish-requires : goal.finish-requires
finish-requires g c =
    let all = c.in-Ok-history_of.ensures.read c.args.disk c.in-Ok.ensures.begins in
    (log_mark, c.args.disk, all.0, all.1)

pub of-log-requires : goal.of-log-requires
of-log-requires g c =
    let all = c.in-Ok-history_of.ensures.read c.args.disk c.in-Ok.ensures.begins in
    (c.finish.ensures.keeps log_mark c.args.disk all.0 all.1).1

pub returns-in-Ok-history_of-clause-history : goal.returns-in-Ok-history_of-clause-history
returns-in-Ok-history_of-clause-history g c = λ file told.
    let all = c.in-Ok-history_of.ensures.read c.args.disk c.in-Ok.ensures.begins in
    record { records = all.0; journal = all.1.stands file told; stands = all.2 }

pub returns-in-Ok-history_of-clause-lawful : goal.returns-in-Ok-history_of-clause-lawful
returns-in-Ok-history_of-clause-lawful g c =
    let all = c.in-Ok-history_of.ensures.read c.args.disk c.in-Ok.ensures.begins in
    all.2.lawful

pub returns-in-Ok-history_of-clause-keeps : goal.returns-in-Ok-history_of-clause-keeps
returns-in-Ok-history_of-clause-keeps g c =
    let all = c.in-Ok-history_of.ensures.read c.args.disk c.in-Ok.ensures.begins in
    c.of-log.ensures.keeps all.0 c.in-Ok-history_of.entries (c.finish.ensures.keeps log_mark c.args.disk all.0 all.1).0 all.2

pub returns-in-Ok-history_of-clause-count : goal.returns-in-Ok-history_of-clause-count
returns-in-Ok-history_of-clause-count g c =
    let all = c.in-Ok-history_of.ensures.read c.args.disk c.in-Ok.ensures.begins in
    c.of-log.ensures.count all.0 (c.finish.ensures.keeps log_mark c.args.disk all.0 all.1).0
    ∙ stands-count all.0 c.in-Ok-history_of.entries all.2

pub returns-in-Ok-history_of-clause-known : goal.returns-in-Ok-history_of-clause-known
returns-in-Ok-history_of-clause-known g c = λ file told.
    let all = c.in-Ok-history_of.ensures.read c.args.disk c.in-Ok.ensures.begins in
    let now = all.1.read.begun file told in
    (now.0, ap g.D.Disk.bytes (c.of-log.ensures.disk ∙ c.finish.ensures.disk) ∙ now.1)

pub returns-in-Ok-history_of-clause-any_moment : goal.returns-in-Ok-history_of-clause-any_moment
returns-in-Ok-history_of-clause-any_moment g c = λ file told.
    let d = g.D.Disk in
    subst (λ now. LeavesBegun d.bytes d.images d.moment d.images_since c.args.disk now)
    (sym (c.of-log.ensures.disk ∙ c.finish.ensures.disk))
    (c.history_of.ensures.any_moment c.args.disk c.in-Ok.ensures.begins) file told

pub returns-in-Ok-history_of-clause-any_moment_stands : goal.returns-in-Ok-history_of-clause-any_moment_stands
returns-in-Ok-history_of-clause-any_moment_stands g c = λ file told.
    let d = g.D.Disk in
    let all = c.in-Ok-history_of.ensures.read c.args.disk c.in-Ok.ensures.begins in
    let h = c.in-Ok-history_of.entries in
    subst (λ disk. LeavesOnly d.moment d.images_since c.args.disk disk (λ image. d.images c.args.disk image ⊎ IsLogOf image h))
    (sym (c.of-log.ensures.disk ∙ c.finish.ensures.disk))
    (weakened d.moment d.images_since c.args.disk _ _ _ (all.1.any_moment file told)
    (λ image left. ⊎_elim (λ was. inl was)
    (λ stands. inr (record { records = all.0; journal = stands; stands = all.2 })) left))

pub returns-in-Err-history_of-clause-any_moment : goal.returns-in-Err-history_of-clause-any_moment
returns-in-Err-history_of-clause-any_moment g c = λ file told.
    let d = g.D.Disk in
    subst (λ now. LeavesBegun d.bytes d.images d.moment d.images_since c.args.disk now) (sym c.give_back.ensures)
    (c.history_of.ensures.any_moment c.args.disk c.in-Ok.ensures.begins) file told
