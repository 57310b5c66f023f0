use Rattle.talk_model.proofs.OneMore.{commits-push, Talk-last}
use Rattle.talk_model.proofs.talks.a_talk_ends_with_its_last_form.Goals as goal

pub returns : goal.returns
returns g c = λ s guard is_filter h stop teller before after talk x told.
    let last = Talk-last _ before after talk x told in
    (last.middle, last.talk_is, last.answered, last.place, commits-push talk x)
