use Rattle.std.proofs.Common.{length-append, ◌≤◌, ◌++◌, arith}
use Rattle.fb_model.specs.History.{basis}
use Rattle.fb_model.proofs.LawfulHistories.{IsLawful-length}
use Rattle.talk_model.proofs.Longer.{Talk-longer}
use Rattle.talk_model.proofs.talks.a_longer_history_keeps_a_talk.Goals as goal

pub returns : goal.returns
returns g c = λ s guard is_filter h more stop later teller is_teller before after talk lawful longer within stays told.
    let grows : basis h ≤ basis (h ++ more) =
    omega (arith, IsLawful-length h lawful, IsLawful-length (h ++ more) longer, length-append h more) in
    Talk-longer _ more later is_teller (IsLawful-length h lawful) grows stays before after talk within told
