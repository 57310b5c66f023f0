use Rattle.std.proofs.Common.{◌≡◌, ◌<◌, length, take, arith}
use Rattle.edn_model.specs.Tokens.{number}
use Rattle.edn_token.proofs.Numbers.{number_front}
use Rattle.edn_token.proofs.number.magnitude.Goals as goal

pub returns-in_err-tens : goal.returns-in_err-tens
returns-in_err-tens c =
    let inside : c.loop-b.b-index < length c.args.digits.now = c.loop-b-test.true in
    let front = number_front c.args.digits.now c.loop-b.b-index inside in
    let so_far : c.loop-b.n ≡ number (take c.loop-b.b-index c.args.digits.now) = c.loop-b.invariant in
    rw c.from_residual.ensures (omega (arith, c.in_err-tens.ensures))

pub returns-in_err-n : goal.returns-in_err-n
returns-in_err-n c =
    let inside : c.loop-b.b-index < length c.args.digits.now = c.loop-b-test.true in
    let front = number_front c.args.digits.now c.loop-b.b-index inside in
    let so_far : c.loop-b.n ≡ number (take c.loop-b.b-index c.args.digits.now) = c.loop-b.invariant in
    rw c.from_residual-in_err-n.ensures (omega (arith, c.in_ok-tens.ensures, c.in_err-n.ensures, c.from.ensures))
