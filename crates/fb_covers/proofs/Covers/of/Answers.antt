use Rattle.std.proofs.Common.{eqb, ap, ◌∙◌}
use Rattle.std.specs.List.{list_any}
use Rattle.fb_covers.proofs.Keys.{iff-Contains}
use Rattle.fb_covers.proofs.Covers.of.Goals as goal

pub returns-clause-avet : goal.returns-clause-avet
returns-clause-avet c =
    λ a. iff-Contains c.args.avet.items a _ (c.in_ok-avet.ensures a ∙ ap (list_any (λ b. eqb a b)) c.deref.ensures.value)

pub returns-clause-vaet : goal.returns-clause-vaet
returns-clause-vaet c =
    λ a. iff-Contains c.args.vaet.items a _ (c.in_ok-vaet.ensures a ∙ ap (list_any (λ b. eqb a b)) c.deref-2.ensures.value)
