use Rattle.std.proofs.Common.{◌∷◌, ap, ◌∙◌, arith}
use Rattle.edn_token.specs.Judged.{behind_plus, behind_minus}
use Rattle.edn_token.proofs.Marks.{unsigned_end, unsigned_first}
use Rattle.edn_token.proofs.token.unsigned.Goals as goal

pub returns-in_default : goal.returns-in_default
returns-in_default c = unsigned_end c.args.token.now c.in_default.ensures.cases

pub returns-in-43 : goal.returns-in-43
returns-in-43 c = behind_plus (c.in-Some.ensures.cases.0 ∙ ap (λ b. b ∷ c.in-Some.behind.now) c.in-43.is)

pub returns-in-45 : goal.returns-in-45
returns-in-45 c = behind_minus (c.in-Some.ensures.cases.0 ∙ ap (λ b. b ∷ c.in-Some.behind.now) c.in-45.is)

pub returns-in_default-first : goal.returns-in_default-first
returns-in_default-first c = unsigned_first c.args.token.now _ _ c.in-Some.ensures.cases.0 (λ e. omega arith) (λ e. omega arith)
