use Rattle.std.proofs.Common.{◌∷◌, refl, arith}
use Rattle.edn_model.specs.Bytes.{colon}
use Rattle.edn_instant.specs.Fronts.{Front, IsClock}
use Rattle.edn_instant.proofs.FrontDigits.{front_then}
use Rattle.edn_instant.proofs.TimeParts.{seconds_no_clock, seconds_no_second, is_seconds}
use Rattle.edn_instant.proofs.times.seconds.Goals as goal

pub returns-in_err-minutes : goal.returns-in_err-minutes
returns-in_err-minutes c = rw c.from_residual.ensures (seconds_no_clock c.args.bytes.now c.in_err-minutes.ensures)

pub returns-in_err-second : goal.returns-in_err-second
returns-in_err-second c =
    let clock : Front (IsClock c.in_ok-minutes.minutes) c.args.bytes.now (colon ∷ c.in_ok-behind.field-0.now) =
    front_then _ _ _ _ c.in_ok-minutes.ensures c.in_ok-behind.ensures in
    rw c.from_residual-in_err-second.ensures
    (seconds_no_second c.in_ok-minutes.minutes c.args.bytes.now c.in_ok-behind.field-0.now clock c.in_err-second.ensures)

pub returns : goal.returns
returns c =
    let clock : Front (IsClock c.in_ok-minutes.minutes) c.args.bytes.now (colon ∷ c.in_ok-behind.field-0.now) =
    front_then _ _ _ _ c.in_ok-minutes.ensures c.in_ok-behind.ensures in
    is_seconds c.in_ok-minutes.minutes c.in_ok-second.second _ c.args.bytes.now c.in_ok-behind.field-0.now c.in_ok-second.rest.now clock
    c.in_ok-second.ensures
    (omega (arith, c.if-second-gt-LAST_SECOND.false)) refl
