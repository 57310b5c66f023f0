use Rattle.std.proofs.Common.{length-append, ◌≤◌, ◌++◌, arith}
use Rattle.fb_model.specs.History.{basis}
use Rattle.fb_model.proofs.LawfulHistories.{IsLawful-length}
use Rattle.fb_session.proofs.LongerHistories.{replies_longer}
use Rattle.fb_session.proofs.laws.a_longer_history_keeps_replies.Goals as goal

pub returns : goal.returns
returns g c = λ s guard is_filter h more stop later teller is_teller opening run lawful longer within stays replies.
    let grows : basis h ≤ basis (h ++ more) =
    omega (arith, IsLawful-length h lawful, IsLawful-length (h ++ more) longer, length-append h more) in
    replies_longer _ more later is_teller (IsLawful-length h lawful) grows stays opening within run replies
