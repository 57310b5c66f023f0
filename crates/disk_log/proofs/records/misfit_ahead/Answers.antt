use Rattle.std.proofs.Common.{◌++◌, ℕ, List, sym, subst, arith}
use Rattle.std.proofs.lemmas.Result.{err_from_is_err_and}
use Rattle.disk_model.specs.Journal.{log_mark}
use Rattle.fb_journal.specs.Readings.{IsFirstFault, IsFront}
use Rattle.disk_log.proofs.records.misfit_ahead.Goals as goal

pub returns-in_err-next-clause-why_not : goal.returns-in_err-next-clause-why_not
returns-in_err-next-clause-why_not g c =
    let exit = err_from_is_err_and c.from_residual.result c.from_residual.ensures.1 in
    rw (exit.1)
    (λ disk records has. (
      subst (IsFirstFault log_mark (g.D.Disk.bytes disk) records) (sym exit.2) (c.in_err-next.ensures.why_not log_mark disk records has),
      c.front.ensures.stays log_mark disk records has,
    ))

pub returns-in_default-clause-stays : goal.returns-in_default-clause-stays
returns-in_default-clause-stays g c = λ disk records has. c.front.ensures.stays log_mark disk records has

pub returns-in-Ok-Some-clause-record : goal.returns-in-Ok-Some-clause-record
returns-in-Ok-Some-clause-record g c =
    let ahead = rw c.in-Some.is at c.in_ok-next.ensures.front in
    let bytes : List ℕ = c.as_slice-bytes.result.now in
    let byte : ℕ = c.in-Ok-Some.byte in
    let passed = c.pass.ensures.passed in
    let told = rw c.in-Ok-Some.field-0-is at c.in-Ok-Some.ensures.tells in (
      bytes ++ passed.0,
      λ disk records has.
          let here = ahead log_mark disk records has in (
            passed.1 log_mark disk records (c.front.ensures.stays log_mark disk records has)
                (subst (λ (l : List ℕ). IsFront g.D.Disk.bytes c.front.new.self c.in-Some.next l) (sym c.as_slice-bytes.ensures.value)
                here.0),
            (byte, told passed.0, here.1, omega (arith, here.2)),
          ),
    )

pub returns-in-Ok-None-clause-stays : goal.returns-in-Ok-None-clause-stays
returns-in-Ok-None-clause-stays g c = λ disk records has. c.front.ensures.stays log_mark disk records has

pub returns-in-Err-clause-why_not : goal.returns-in-Err-clause-why_not
returns-in-Err-clause-why_not g c = λ disk records has. (tt, c.front.ensures.stays log_mark disk records has)
