use Rattle.std.proofs.Common.{◌≡◌, ◌<◌, length, ◌∙◌, arith}
use Rattle.std.proofs.lemmas.Bool.Decides.{nat_tests}
use Rattle.edn_token.proofs.Marks.{no_digits, mark_is}
use Rattle.edn_token.proofs.token.mark_of.Goals as goal

pub returns-then-is_empty : goal.returns-then-is_empty
returns-then-is_empty c =
    let none : length c.split_digits.result.0.now ≡ 0 =
    let empty = c.is_empty.ensures in let was = c.if-is_empty.true in grind (arith, nat_tests) in
    no_digits c.args.token.now _ _ _ c.unsigned.ensures c.split_digits.ensures none

pub returns : goal.returns
returns c =
    let some : 0 < length c.split_digits.result.0.now =
    let empty = c.is_empty.ensures in let was = c.if-is_empty.false in grind (arith, nat_tests) in
    mark_is c.args.token.now _ _ _ c.copied.result c.unsigned.ensures c.split_digits.ensures some (c.copied.ensures ∙ c.first.ensures.value)
