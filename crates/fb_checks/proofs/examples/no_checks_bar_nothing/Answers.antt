use Rattle.std.proofs.Common.{ap, refl, cond, false, Some, None}
use Rattle.tx_refusals.specs.declared.reasons.Bar.TheVariants.{AttrPred, MissingRequired}
use Rattle.fb_checks.proofs.Anys.{any_false}
use Rattle.fb_checks.proofs.examples.no_checks_bar_nothing.Goals as goal

pub returns : goal.returns
returns c h changes =
    ap (λ b. cond b (Some AttrPred) (cond b (Some MissingRequired) None)) (any_false (λ d. false) (λ d. refl) changes)
