use Rattle.std.proofs.Common.{◌≡◌, false, arith}
use Rattle.std.proofs.lemmas.Bool.Decides.{nat_tests}
use Rattle.edn_token.proofs.NoTokens.{is_mark, no_number}
use Rattle.edn_token.proofs.Marks.{no_mark}
use Rattle.edn_token.proofs.token.judge_mark.Goals as goal

pub returns-in_default-mark : goal.returns-in_default-mark
returns-in_default-mark c = λ word no_numeral.
    let fails : is_mark c.in-Some.mark ≡ false = grind (arith, nat_tests) in
    no_number c.args.token.now word no_numeral (no_mark c.args.token.now c.in-Some.mark c.in-Some.ensures fails)
