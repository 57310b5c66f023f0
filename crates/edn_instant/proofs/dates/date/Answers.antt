use Rattle.std.proofs.Common.{◌∷◌, FitsSigned, w32, arith}
use Rattle.jiff_core.proofs.SignedLemmas.{signed_arith}
use Rattle.std.proofs.lemmas.Int.{to_z-of_z}
use Rattle.edn_model.specs.Bytes.{minus}
use Rattle.edn_instant.specs.Fronts.{Front, IsTwo, IsFour}
use Rattle.edn_instant.proofs.FrontDigits.{front_then}
use Rattle.edn_instant.proofs.DateParts.{no_year, no_month, no_day, is_date}
use Rattle.edn_instant.proofs.dates.date.Goals as goal

pub returns-in_err-year-clause-value : goal.returns-in_err-year-clause-value
returns-in_err-year-clause-value c = rw c.from_residual.ensures (no_year c.args.bytes.now c.in_err-year.ensures)

pub returns-in_err-month-clause-value : goal.returns-in_err-month-clause-value
returns-in_err-month-clause-value c =
    let years : Front (IsFour c.in_ok-year.year) c.args.bytes.now (minus ∷ c.in_ok-behind.field-0.now) =
    front_then _ _ _ _ c.in_ok-year.ensures c.in_ok-behind.ensures in
    rw c.from_residual-in_err-month.ensures
    (no_month c.in_ok-year.year c.args.bytes.now c.in_ok-behind.field-0.now years c.in_err-month.ensures)

pub returns-in_err-day-clause-value : goal.returns-in_err-day-clause-value
returns-in_err-day-clause-value c =
    let years : Front (IsFour c.in_ok-year.year) c.args.bytes.now (minus ∷ c.in_ok-behind.field-0.now) =
    front_then _ _ _ _ c.in_ok-year.ensures c.in_ok-behind.ensures in
    let months : Front (IsTwo c.in_ok-month.month) c.in_ok-behind.field-0.now (minus ∷ c.in_ok-behind-2.field-0.now) =
    front_then _ _ _ _ c.in_ok-month.ensures c.in_ok-behind-2.ensures in
    rw c.from_residual-in_err-day.ensures
    (no_day c.in_ok-year.year c.in_ok-month.month c.args.bytes.now c.in_ok-behind.field-0.now c.in_ok-behind-2.field-0.now years months
    c.in_err-day.ensures)

pub returns-clause-value : goal.returns-clause-value
returns-clause-value c =
    let years : Front (IsFour c.in_ok-year.year) c.args.bytes.now (minus ∷ c.in_ok-behind.field-0.now) =
    front_then _ _ _ _ c.in_ok-year.ensures c.in_ok-behind.ensures in
    let months : Front (IsTwo c.in_ok-month.month) c.in_ok-behind.field-0.now (minus ∷ c.in_ok-behind-2.field-0.now) =
    front_then _ _ _ _ c.in_ok-month.ensures c.in_ok-behind-2.ensures in
    let number = c.in_ok-day_number.ensures in
    let between = number.bound in
    let fits : FitsSigned w32 c.in_ok-day_number.field-0 = omega (arith, signed_arith) in
    rw (to_z-of_z w32 c.in_ok-day_number.field-0 fits) (is_date c.in_ok-year.year c.in_ok-month.month c.in_ok-day.day
    c.in_ok-day_number.field-0 c.args.bytes.now c.in_ok-behind.field-0.now c.in_ok-behind-2.field-0.now
    c.in_ok-day.rest.now years months c.in_ok-day.ensures number.value.0 number.value.1)
