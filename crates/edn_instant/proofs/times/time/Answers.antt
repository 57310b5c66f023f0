use Rattle.std.proofs.Common.{FitsSigned, w32, refl, arith}
use Rattle.jiff_core.proofs.SignedLemmas.{signed_arith}
use Rattle.std.proofs.lemmas.Int.{to_z-of_z}
use Rattle.edn_instant.proofs.TimeParts.{no_seconds, no_ending, is_time}
use Rattle.edn_instant.proofs.times.time.Goals as goal

pub returns-in_err-seconds-clause-value : goal.returns-in_err-seconds-clause-value
returns-in_err-seconds-clause-value c = rw c.from_residual.ensures (no_seconds c.args.bytes.now c.in_err-seconds.ensures)

pub returns-in_err-millis-clause-value : goal.returns-in_err-millis-clause-value
returns-in_err-millis-clause-value c =
    rw c.from_residual-in_err-millis.ensures
    (no_ending c.in_ok-seconds.seconds c.args.bytes.now c.in_ok-seconds.rest.now c.in_ok-seconds.ensures c.in_err-millis.ensures.value)

pub returns-clause-value : goal.returns-clause-value
returns-clause-value c =
    let between = c.in_ok-millis.ensures.bound.1 in
    let fits : FitsSigned w32 c.in_ok-millis.ahead = omega (arith, signed_arith) in
    rw (to_z-of_z w32 c.in_ok-millis.ahead fits) (is_time c.in_ok-seconds.seconds c.in_ok-millis.millis _ c.in_ok-millis.ahead
    c.args.bytes.now c.in_ok-seconds.rest.now c.in_ok-seconds.ensures c.in_ok-millis.ensures.value refl)
