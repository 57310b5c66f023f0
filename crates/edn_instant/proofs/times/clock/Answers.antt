use Rattle.std.proofs.Common.{◌∷◌, refl, arith}
use Rattle.edn_model.specs.Bytes.{colon}
use Rattle.edn_instant.specs.Fronts.{Front, IsTwo}
use Rattle.edn_instant.proofs.FrontDigits.{front_then}
use Rattle.edn_instant.proofs.TimeParts.{no_hour, no_minute, is_clock}
use Rattle.edn_instant.proofs.times.clock.Goals as goal

pub returns-in_err-hour : goal.returns-in_err-hour
returns-in_err-hour c = rw c.from_residual.ensures (no_hour c.args.bytes.now c.in_err-hour.ensures)

pub returns-in_err-minute : goal.returns-in_err-minute
returns-in_err-minute c =
    let hours : Front (IsTwo c.in_ok-hour.hour) c.args.bytes.now (colon ∷ c.in_ok-behind.field-0.now) =
    front_then _ _ _ _ c.in_ok-hour.ensures c.in_ok-behind.ensures in
    rw c.from_residual-in_err-minute.ensures
    (no_minute c.in_ok-hour.hour c.args.bytes.now c.in_ok-behind.field-0.now hours c.in_err-minute.ensures)

pub returns : goal.returns
returns c =
    let hours : Front (IsTwo c.in_ok-hour.hour) c.args.bytes.now (colon ∷ c.in_ok-behind.field-0.now) =
    front_then _ _ _ _ c.in_ok-hour.ensures c.in_ok-behind.ensures in
    is_clock c.in_ok-hour.hour c.in_ok-minute.minute _ c.args.bytes.now c.in_ok-behind.field-0.now c.in_ok-minute.rest.now hours
    c.in_ok-minute.ensures
    (omega (arith, c.if-hour-gt-LAST_HOUR.false), omega (arith, c.if-minute-gt-LAST_MINUTE.false)) refl
