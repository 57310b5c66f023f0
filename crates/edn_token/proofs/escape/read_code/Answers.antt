use Rattle.std.proofs.Common.{◌≤◌, length, arith}
use Rattle.edn_token.proofs.Escapes.{bad_code_there, code_is, surrogate_there}
use Rattle.edn_token.proofs.escape.read_code.Goals as goal

pub returns-in_default : goal.returns-in_default
returns-in_default c = bad_code_there c.args.digits.now _ c.split_at.ensures.front c.in_default.ensures

pub returns-in-None : goal.returns-in-None
returns-in-None c =
    let long : 4 ≤ length c.args.digits.now = omega arith in
    surrogate_there c.args.digits.now _ c.in-Some.code c.split_at.ensures.front long c.in-Some.ensures c.in-None.ensures.cases

pub returns-in-Some-from_u32 : goal.returns-in-Some-from_u32
returns-in-Some-from_u32 c =
    let long : 4 ≤ length c.args.digits.now = omega arith in
    let made = c.in-Some-from_u32.ensures in
    code_is c.args.digits.now _ c.in-Some.code c.in-Some-from_u32.c c.split_at.ensures.front long c.in-Some.ensures made.value.0
    made.value.1 made.cases
