use Rattle.talk_model.proofs.OneReply.{answer_one}
use Rattle.talk_model.proofs.reads.a_read_has_one_answer.Goals as goal

pub returns : goal.returns
returns g c = λ s guard is_filter h stop teller before after other f asked line that commit last lawful is first second.
    let same = answer_one _ before f asked after other line that commit last lawful is first second in
    (same.standings, same.lines, same.commits)
