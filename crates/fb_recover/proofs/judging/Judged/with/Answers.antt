use Rattle.std.proofs.Common.{subst}
use Rattle.std.proofs.lemmas.Result.{IfOk-weaker}
use Rattle.fb_recover.specs.Judging.{IsJudged}
use Rattle.fb_recover.proofs.Laws.{judged-followed, judged-stays}
use Rattle.fb_recover.proofs.judging.Judged.with.Goals as goal

pub followed-requires : goal.followed-requires
followed-requires c =
    let so_far = subst (IsJudged c.requires.0) c.in-Lawful.is c.requires.1 in
    record { lawful = so_far.1; schema = so_far.2 }

pub returns-in-Lawful : goal.returns-in-Lawful
returns-in-Lawful c =
    IfOk-weaker c.followed.result _ _
    (λ judged followed entries was. let so_far = subst (IsJudged entries) c.in-Lawful.is was in
    judged-followed entries c.args.entry c.in-Lawful.held judged so_far.0 so_far.1 followed)
    c.followed.ensures

pub returns-in-Unlawful : goal.returns-in-Unlawful
returns-in-Unlawful c = λ entries was.
    judged-stays entries c.args.entry c.in-Unlawful.t c.in-Unlawful.law (subst (IsJudged entries) c.in-Unlawful.is was)
