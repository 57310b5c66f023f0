use Rattle.std.proofs.Common.{◌∙◌, sym}
use Rattle.std.proofs.lemmas.Bool.{true≢false}
use Rattle.seg_agree.proofs.index.Index.has.Goals as goal

pub returns-then-holds : goal.returns-then-holds
returns-then-holds c = (
  (λ is. record {
    is_said = c.says.ensures.0 is;
    is_covered = sym (c.requires.covers c.args.d.now.a) ∙ sym c.holds.ensures ∙ c.if-holds.true;
  }),
  (λ indexed. c.says.ensures.1 indexed.is_said),
)

pub returns-else-holds : goal.returns-else-holds
returns-else-holds c = (
  (λ is. absurd (true≢false (sym is ∙ c.if-holds.false))),
  (λ indexed. absurd (true≢false
      (sym indexed.is_covered ∙ sym (c.requires.covers c.args.d.now.a) ∙ sym c.holds.ensures ∙ c.if-holds.false))),
)
