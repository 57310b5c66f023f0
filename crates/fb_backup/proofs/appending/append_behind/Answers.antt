use Rattle.std.proofs.Common.{take, subst, sym, arith}
use Rattle.std.proofs.lemmas.Result.{err_from_is_err_and}
use Rattle.disk_log.specs.Logs.{KeepsHistory}
use Rattle.fb_view.proofs.Beginnings.{next_of}
use Rattle.fb_view.proofs.Lists.{take-next}
use Rattle.fb_backup.proofs.Appended.{taken_lawful, stopped-left}
use Rattle.fb_backup.proofs.appending.append_behind.Goals as goal

pub append-requires : goal.append-requires
append-requires g c =
    let h = c.args.entries.now in
    let n = c.loop-next.next in (
      take n h,
      taken_lawful h n c.requires.lawful c.loop-next.invariant.some,
      next_of h n c.at.result.now c.requires.lawful c.loop-next.invariant.some c.at.ensures,
    )

pub loop-next-preserved : goal.loop-next-preserved
loop-next-preserved g c =
    let h = c.args.entries.now in
    let n = c.loop-next.next in
    let entry = c.at.result.now in
    let d = g.D.Disk in
    record {
      some = omega arith;
      kept = λ begun was.
          subst (λ past. KeepsHistory d.bytes d.images d.faults d.moment d.images_since begun past c.append.new.log)
          (sym (take-next h n entry c.at.ensures))
          (c.in_ok-append.ensures.kept begun (take n h)
          (next_of h n entry c.requires.lawful c.loop-next.invariant.some c.at.ensures) (c.loop-next.invariant.kept begun was));
    }

pub returns-in_err-append-clause-stopped : goal.returns-in_err-append-clause-stopped
returns-in_err-append-clause-stopped g c =
    let h = c.args.entries.now in
    let n = c.loop-next.next in
    let entry = c.at.result.now in
    let d = g.D.Disk in
    let exit = err_from_is_err_and c.from_residual.result c.from_residual.ensures.1 in
    rw (exit.1, exit.2)
    (λ begun was.
    stopped-left h c.requires.lawful d.bytes d.images d.faults d.moment d.images_since begun c.append.new.log n entry
    c.loop-next.invariant.some c.at.ensures c.in_err-append.field-0.0
    (c.in_err-append.ensures.stopped begun (take n h)
    (next_of h n entry c.requires.lawful c.loop-next.invariant.some c.at.ensures) (c.loop-next.invariant.kept begun was)))
