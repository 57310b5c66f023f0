use Rattle.std.proofs.Common.{◌∙◌, sym}
use Rattle.std.proofs.lemmas.Bool.{true≢false}
use Rattle.seg_agree.proofs.index.Index.goes_on.Goals as goal

pub returns-then-is_before : goal.returns-then-is_before
returns-then-is_before c = (
  (λ is. (c.has.ensures.0 is, sym c.is_before.ensures ∙ c.if-is_before.true)),
  (λ both. c.has.ensures.1 both.0),
)

pub returns-else-is_before : goal.returns-else-is_before
returns-else-is_before c = (
  (λ is. absurd (true≢false (sym is ∙ c.if-is_before.false))),
  (λ both. absurd (true≢false (sym both.1 ∙ sym c.is_before.ensures ∙ c.if-is_before.false))),
)
