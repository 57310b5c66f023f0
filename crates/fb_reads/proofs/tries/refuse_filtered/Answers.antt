use Rattle.std.proofs.Common.{ℕ, subst}
use Rattle.std.specs.Prelude.{OnOk}
use Rattle.read_refusals.specs.declared.reasons.Reason.TheVariants.{Filtered}
use Rattle.read_model.specs.Given.{refusal}
use Rattle.talk_model.specs.Looks.{refused}
use Rattle.talk_model.specs.Replies.{IsLineOf}
use Rattle.fb_reads.proofs.tries.refuse_filtered.Goals as goal

pub returns : goal.returns
returns g c =
    subst (λ (n : ℕ). OnOk c.refuse.result (IsLineOf (refused n (refusal Filtered 0)) c.refuse.new.line.items)) c.basis.ensures.basis
    c.refuse.ensures
