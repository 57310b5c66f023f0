use Rattle.std.proofs.Common.{◌≡◌, ◌∙◌, true, sym, ap, arith}
use Rattle.command_line.specs.Words.{begins_above_zero}
use Rattle.command_line.proofs.Digits.{parses, a_number, none_parsed}
use Rattle.command_line.proofs.numbers.number_up_to.Goals as goal

pub returns-in_default-clause-is : goal.returns-in_default-clause-is
returns-in_default-clause-is c =
    let begins : begins_above_zero c.args.word.now ≡ true =
    sym (ap begins_above_zero c.as_bytes.ensures.value) ∙ (sym c.begins_above_zero.ensures ∙ c.if-not-begins_above_zero.false) in
    let parsed = parses c.args.word.now c.parse.result c.parse.ensures.value.0 begins in
    none_parsed c.args.greatest c.args.word.now (omega arith) begins (rw c.in_default.is at parsed)

pub returns-clause-is : goal.returns-clause-is
returns-clause-is c =
    let begins : begins_above_zero c.args.word.now ≡ true =
    sym (ap begins_above_zero c.as_bytes.ensures.value) ∙ (sym c.begins_above_zero.ensures ∙ c.if-not-begins_above_zero.false) in
    let parsed = parses c.args.word.now c.parse.result c.parse.ensures.value.0 begins in
    let told = rw c.in-Ok.is at parsed in
    a_number c.args.greatest c.args.word.now c.in-Ok.n begins told.0.0 told.1 c.if-n-lt1.false c.if-greatest-n.false
