use Rattle.std.proofs.Common.{◌∙◌, sym, arith}
use Rattle.edn_token.proofs.NoTokens.{no_hash_but}
use Rattle.edn_token.proofs.token.judge_other_tag.Goals as goal

pub returns-else-is_letter : goal.returns-else-is_letter
returns-else-is_letter c = λ is no_tag.
    no_hash_but c.args.token.now c.args.behind.now _ c.in-Some.second.now is c.in-Some.ensures.cases.0
    (λ e. let unlike = c.if-second-eq35.false in omega arith) (λ e. let unlike = c.if-second-eq58.false in omega arith)
    (sym c.is_letter.ensures ∙ c.if-is_letter.false)
