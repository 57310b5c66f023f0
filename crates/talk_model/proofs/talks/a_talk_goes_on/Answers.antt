use Rattle.talk_model.proofs.OneMore.{Talk-push}
use Rattle.talk_model.proofs.talks.a_talk_goes_on.Goals as goal

pub returns : goal.returns
returns g c = λ s guard is_filter h stop teller before middle after talk x told answered place.
    Talk-push _ before middle after talk x told answered place
