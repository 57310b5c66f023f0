use Rattle.std.proofs.Common.{◌<◌, length, arith}
use Rattle.edn_instant.proofs.FractionBounds.{number_below, nine_digits, power_some, below_second}
use Rattle.edn_instant.proofs.times.millis_of.Goals as goal

pub overflow_mul-result : goal.overflow_mul-result
overflow_mul-result c =
    omega (arith, c.in-Some.ensures, number_below c.args.digits.now c.requires.digits, nine_digits c.args.digits.now c.requires.few)

pub nonzero_div-result : goal.nonzero_div-result
nonzero_div-result c = omega (arith, c.power_of_ten.ensures, power_some (length c.args.digits.now))

pub overflow_cast-result : goal.overflow_cast-result
overflow_cast-result c =
    let below : c.in-Some.n < c.power_of_ten.result =
    omega (arith, c.in-Some.ensures, number_below c.args.digits.now c.requires.digits, c.power_of_ten.ensures) in
    let millis =
    below_second c.in-Some.n c.power_of_ten.result (omega (arith, c.power_of_ten.ensures, power_some (length c.args.digits.now))) below in
    omega (arith, millis)

pub unreachable-requires : goal.unreachable-requires
unreachable-requires c =
    omega (arith, c.in-None.ensures, number_below c.args.digits.now c.requires.digits, nine_digits c.args.digits.now c.requires.few)

pub returns-clause-bound : goal.returns-clause-bound
returns-clause-bound c =
    let below : c.in-Some.n < c.power_of_ten.result =
    omega (arith, c.in-Some.ensures, number_below c.args.digits.now c.requires.digits, c.power_of_ten.ensures) in
    below_second c.in-Some.n c.power_of_ten.result (omega (arith, c.power_of_ten.ensures, power_some (length c.args.digits.now))) below
