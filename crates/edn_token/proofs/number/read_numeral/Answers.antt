use Rattle.std.proofs.Common.{ℕ, ◌∷◌, ap, ◌∙◌, arith}
use Rattle.edn_model.specs.Bytes.{plus, minus}
use Rattle.edn_model.proofs.OneForm.{apart}
use Rattle.edn_token.proofs.Signs.{behind_plus, behind_minus, without_sign}
use Rattle.edn_token.proofs.number.read_numeral.Goals as goal

pub returns-in-43 : goal.returns-in-43
returns-in-43 c =
    behind_plus c.args.token.now c.in-Some.digits.now c.positive.result
    (c.in-Some.ensures.cases.0 ∙ ap (λ (b : ℕ). b ∷ c.in-Some.digits.now) c.in-43.is) c.positive.ensures

pub returns-in-45 : goal.returns-in-45
returns-in-45 c =
    behind_minus c.args.token.now c.in-Some.digits.now c.negative.result
    (c.in-Some.ensures.cases.0 ∙ ap (λ (b : ℕ). b ∷ c.in-Some.digits.now) c.in-45.is) c.negative.ensures

pub returns-in_default-first : goal.returns-in_default-first
returns-in_default-first c =
    without_sign c.args.token.now c.positive-in_default-first.result
    (λ x e. let same = apart c.in-Some.first.now plus c.in-Some.digits.now x c.args.token.now c.in-Some.ensures.cases.0 e in omega arith)
    (λ x e. let same = apart c.in-Some.first.now minus c.in-Some.digits.now x c.args.token.now c.in-Some.ensures.cases.0 e in omega arith)
    c.positive-in_default-first.ensures
