use Rattle.edn_token.proofs.NoTokens.{no_colon}
use Rattle.edn_token.proofs.token.judge_keyword.Goals as goal

pub returns-else-are_keyword_names : goal.returns-else-are_keyword_names
returns-else-are_keyword_names c =
    λ utf8. no_colon c.args.behind.now (λ h. let passes = c.are_keyword_names.ensures.1 h in let fails = c.if-are_keyword_names.false in cc)
