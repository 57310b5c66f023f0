use Rattle.std.proofs.Common.{refl, sym, subst, arith}
use Rattle.std.proofs.lemmas.Result.{err_from_is_err_and}
use Rattle.disk_model.specs.Journal.{log_mark}
use Rattle.fb_journal.specs.Readings.{IsFirstFault}
use Rattle.disk_log.proofs.records.next_record.Goals as goal

pub returns-in_err-place-clause-why_not : goal.returns-in_err-place-clause-why_not
returns-in_err-place-clause-why_not g c =
    let stays = rw c.in_default.is at c.in_ok-misfit.ensures.stays in
    let exit = err_from_is_err_and c.from_residual-in_err-place.result c.from_residual-in_err-place.ensures.1 in
    rw (exit.1)
    (λ disk records has.
    let first = c.in_err-place.ensures.why_not log_mark disk records (stays disk records has) in
    (subst (IsFirstFault log_mark (g.D.Disk.bytes disk) records) (sym exit.2) first.0, first.1))

pub returns-in-Some-2-clause-record : goal.returns-in-Some-2-clause-record
returns-in-Some-2-clause-record g c =
    let stays = rw c.in_default.is at c.in_ok-misfit.ensures.stays in
    let read = rw c.in-Some-2.is at c.in_ok-place.ensures.record in (
      c.next.new.payload.items,
      λ disk records has.
          let here = read log_mark disk records (stays disk records has) in
          (here.0, (refl, here.1, omega (arith, here.2))),
    )

pub returns-in-None-clause-end : goal.returns-in-None-clause-end
returns-in-None-clause-end g c =
    let stays = rw c.in_default.is at c.in_ok-misfit.ensures.stays in
    let ended = rw c.in-None.is at c.in_ok-place.ensures.end in
    λ disk records has. ended log_mark disk records (stays disk records has)
