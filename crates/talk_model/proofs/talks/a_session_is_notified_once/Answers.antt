use Rattle.talk_model.proofs.Told.{told_once, told_for_good}
use Rattle.talk_model.proofs.talks.a_session_is_notified_once.Goals as goal

pub returns-clause-once : goal.returns-clause-once
returns-clause-once g c = λ s guard is_filter h stop teller one two three four talk f k line other commit last first between again.
    told_once _ one two three four talk f k line other commit last first between again

pub returns-clause-for_good : goal.returns-clause-for_good
returns-clause-for_good g c = λ s guard is_filter h stop teller one two three four talk f k line other commit last first between again.
    told_for_good _ one two three four talk f k line other commit last first between again
