use Rattle.std.proofs.Common.{◌<◌, length, length-take, take, get_or, arith}
use Rattle.edn_model.specs.Tokens.{is_hex_digit}
use Rattle.edn_token.proofs.Escapes.{hex_small, hex_more, each_more, all_pass, digit_some, digit_none, clash}
use Rattle.edn_token.proofs.escape.code_of.Goals as goal

pub returns-in_default : goal.returns-in_default
returns-in_default c = λ each.
    let here = get_or c.args.digits.now c.loop-b.b-index 0 in
    clash (is_hex_digit here) (all_pass is_hex_digit c.args.digits.now c.loop-b.b-index c.loop-b-test.true each)
    (digit_none here c.in_default.ensures)

pub overflow_mul-n : goal.overflow_mul-n
overflow_mul-n c =
    let few = c.requires in
    let inside : c.loop-b.b-index < length c.args.digits.now = c.loop-b-test.true in
    let so_far = c.loop-b.invariant.1 in
    omega (
      arith,
      hex_small (take c.loop-b.b-index c.args.digits.now) c.loop-b.invariant.0
          (omega (arith, length-take c.loop-b.b-index c.args.digits.now)),
    )

pub overflow_add-n : goal.overflow_add-n
overflow_add-n c =
    let few = c.requires in
    let inside : c.loop-b.b-index < length c.args.digits.now = c.loop-b-test.true in
    let so_far = c.loop-b.invariant.1 in
    omega (
      arith,
      c.from.ensures,
      hex_small (take c.loop-b.b-index c.args.digits.now) c.loop-b.invariant.0
          (omega (arith, length-take c.loop-b.b-index c.args.digits.now)),
    )

pub loop-b-preserved : goal.loop-b-preserved
loop-b-preserved c =
    let inside : c.loop-b.b-index < length c.args.digits.now = c.loop-b-test.true in
    let digit = digit_some (get_or c.args.digits.now c.loop-b.b-index 0) c.in-Some.value c.in-Some.ensures in
    let value = digit.1 in
    let so_far = c.loop-b.invariant.1 in
    let next = hex_more c.args.digits.now c.loop-b.b-index inside in
    (each_more c.args.digits.now c.loop-b.b-index inside c.loop-b.invariant.0 digit.0, omega (arith, c.from.ensures, next, so_far, value))
