use Rattle.std.proofs.Common.{◌∷◌, lit<, ap, ◌∙◌, sym, subst}
use Rattle.edn_model.specs.Bytes.{colon}
use Rattle.edn_token.specs.Judged.{TokenIs}
use Rattle.edn_token.proofs.WholeCharacters.{utf8_behind}
use Rattle.edn_token.proofs.token.judge.Goals as goal

pub returns-in-58 : goal.returns-in-58
returns-in-58 c =
    let behind = c.in-Some.behind.now in
    let is = sym c.as_bytes.ensures.value ∙ c.in-Some.ensures.cases.0 ∙ ap (λ b. b ∷ behind) c.in-58.is in
    subst (λ z. TokenIs z c.judge_keyword.result) (sym is)
    (c.judge_keyword.ensures (utf8_behind c.args.token.now behind colon is (lit< tt) c.utf8.token))
