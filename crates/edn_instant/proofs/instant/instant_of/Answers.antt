use Rattle.std.proofs.Common.{to_z-of_z, ◌∙◌, arith}
use Rattle.jiff_core.proofs.SignedLemmas.{signed_arith}
use Rattle.edn_instant.proofs.instant.instant_of.Goals as goal

pub returns : goal.returns
returns c =
    let day = c.from.ensures ∙ to_z-of_z c.ranges.day in
    let ahead = c.from-3.ensures ∙ to_z-of_z c.ranges.ahead in
    omega (arith, signed_arith, c.ranges.day, c.ranges.ahead, c.ranges.millis, day, c.from-2.ensures, ahead)
