use Rattle.std.proofs.Common.{◌+◌, drop, sym, arith}
use Rattle.std.proofs.lemmas.Result.{err_from_is_err_and, IfOk-weaker, IfErr-weaker}
use Rattle.fb_model.proofs.LawfulHistories.{IsLawful-length}
use Rattle.disk_model.proofs.Moments.{joined}
use Rattle.disk_log.specs.Disks.{IsLogFrom}
use Rattle.backup_model.proofs.CopiedLogs.{beginning_lacks}
use Rattle.fb_backup.proofs.Beginnings.{from-less, from-within, lawful-as}
use Rattle.fb_backup.proofs.Causes.{outside-cause, outside-refusal}
use Rattle.fb_backup.proofs.backing.backup.Goals as goal

pub returns-in_err-target-clause-any_moment : goal.returns-in_err-target-clause-any_moment
returns-in_err-target-clause-any_moment g c =
    let exit = err_from_is_err_and c.from_residual.result c.from_residual.ensures.1 in
    rw (exit.1, exit.2, sym c.entries-entries.ensures.entries) c.in_err-target.ensures.any_moment

pub brought-requires-clause-within : goal.brought-requires-clause-within
brought-requires-clause-within g c =
    let h = c.entries-entries.result.now in
    let lawful = lawful-as h c.args.snapshot.now.entries c.entries-entries.ensures.entries c.entries-entries.ensures.stands.history.lawful in
    omega (arith, c.in_ok-target.ensures.within, IsLawful-length h lawful)

pub returns-clause-copied : goal.returns-clause-copied
returns-clause-copied g c =
    let h = c.entries-entries.result.now in
    let t = c.in_ok-target.target.t in
    rw (sym c.entries-entries.ensures.entries)
    (IfOk-weaker c.brought.result _ _
    (λ b copied. λ file told. (drop (t + 1) h, beginning_lacks file h t (c.in_ok-target.ensures.beginning file told), copied))
    c.brought.ensures.copied)

pub returns-clause-stands : goal.returns-clause-stands
returns-clause-stands g c =
    rw (sym c.entries-entries.ensures.entries)
    (IfOk-weaker c.brought.result _ _
    (λ b stands. λ file told. let now = c.in_ok-target.ensures.known file told in stands now.0 now.1)
    c.brought.ensures.stands)

pub returns-clause-known : goal.returns-clause-known
returns-clause-known g c =
    IfOk-weaker c.brought.result _ _
    (λ b known. λ file told. let now = c.in_ok-target.ensures.known file told in known now.0 now.1)
    c.brought.ensures.known

pub returns-clause-any_moment : goal.returns-clause-any_moment
returns-clause-any_moment g c =
    let d = g.D.Disk in
    let h = c.entries-entries.result.now in
    let lawful = lawful-as h c.args.snapshot.now.entries c.entries-entries.ensures.entries c.entries-entries.ensures.stands.history.lawful in
    let opened = c.in_ok-target.ensures in
    let t = c.in_ok-target.target.t in
    rw (sym c.entries-entries.ensures.entries)
    (λ n file told were.
    let now = opened.known file told in
    let less = from-within h n t file lawful opened.within (opened.beginning file told)
    (were file (g.met.D.Disk.reads_an_image c.args.log file told)) in
    joined d.moment d.images_since c.args.log _ _ (IsLogFrom n h) _ (IsLogFrom n h) (opened.any_moment n file told were)
    (c.brought.ensures.any_moment now.0 now.1)
    (λ image from. from)
    (λ image from. from-less h n _ image (omega (arith, less, opened.count)) from))

pub returns-clause-why_not : goal.returns-clause-why_not
returns-clause-why_not g c =
    IfErr-weaker c.brought.result _ _
    (λ stop outside. outside-cause (g.D.Disk.bytes c.args.log) c.args.snapshot.now.entries stop.fault outside)
    c.brought.ensures.why_not

pub returns-clause-untouched : goal.returns-clause-untouched
returns-clause-untouched g c =
    IfErr-weaker c.brought.result _ _
    (λ stop outside refusal. absurd (outside-refusal stop.fault outside refusal))
    c.brought.ensures.why_not
