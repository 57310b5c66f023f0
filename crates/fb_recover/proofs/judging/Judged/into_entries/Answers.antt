use Rattle.std.proofs.Common.{subst, sym, ◌∙◌}
use Rattle.fb_model.specs.Lawful.{IsLawful}
use Rattle.fb_recover.specs.Judging.{IsJudged}
use Rattle.fb_recover.proofs.Laws.{unlawful-told}
use Rattle.fb_recover.proofs.judging.Judged.into_entries.Goals as goal

pub returns-in-Lawful-clause-lawful : goal.returns-in-Lawful-clause-lawful
returns-in-Lawful-clause-lawful c = λ entries was.
    let so_far = subst (IsJudged entries) c.in-Lawful.is was in
    (c.into_entries.ensures ∙ so_far.0, subst IsLawful (sym c.into_entries.ensures) so_far.1)

pub returns-clause-unlawful : goal.returns-clause-unlawful
returns-clause-unlawful c = λ entries was.
    unlawful-told entries c.in-Unlawful.t c.in-Unlawful.law (subst (IsJudged entries) c.in-Unlawful.is was)
