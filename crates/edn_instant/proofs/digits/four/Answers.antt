use Rattle.edn_instant.proofs.FrontDigits.{no_high, no_low}
use Rattle.edn_instant.proofs.digits.four.Goals as goal

pub returns-in_err-high : goal.returns-in_err-high
returns-in_err-high c = rw c.from_residual.ensures (no_high c.args.bytes.now (c.in_err-high.ensures))

pub returns-in_err-low : goal.returns-in_err-low
returns-in_err-low c =
    rw c.from_residual-in_err-low.ensures
    (no_low c.in_ok-high.high c.args.bytes.now c.in_ok-high.rest.now (c.in_ok-high.ensures) (c.in_err-low.ensures))
