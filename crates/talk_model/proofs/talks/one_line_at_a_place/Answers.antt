use Rattle.talk_model.proofs.OneLine.{accepted_one, refused_one, shown_one}
use Rattle.talk_model.proofs.talks.one_line_at_a_place.Goals as goal

pub returns-clause-accepted : goal.returns-clause-accepted
returns-clause-accepted g c = λ s guard is_filter h stop teller before after other asked line that commit last place first second.
    accepted_one _ before after other line that commit last place asked first second

pub returns-clause-refused : goal.returns-clause-refused
returns-clause-refused g c = λ s guard is_filter h stop teller before after other asked line that commit last place first second.
    refused_one _ before after other line that commit last place asked first second

pub returns-clause-shown : goal.returns-clause-shown
returns-clause-shown g c = λ s guard is_filter h stop teller before after other line that commit last place first second.
    shown_one _ before after other line that commit last place first second
