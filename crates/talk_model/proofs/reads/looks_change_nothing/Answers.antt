use Rattle.talk_model.proofs.OneReply.{answer_look, answer_tried, answer_tuples, answer_request, answer_none}
use Rattle.talk_model.proofs.reads.looks_change_nothing.Goals as goal

pub returns-clause-look : goal.returns-clause-look
returns-clause-look g c =
    λ s guard is_filter h stop teller before after f l line commit is a. answer_look _ before f l after line commit is a

pub returns-clause-tried : goal.returns-clause-tried
returns-clause-tried g c =
    λ s guard is_filter h stop teller before after f datas l line commit is a. answer_tried _ before f datas l after line commit is a

pub returns-clause-tuples : goal.returns-clause-tuples
returns-clause-tuples g c =
    λ s guard is_filter h stop teller before after f names start end line commit is a.
    answer_tuples _ before f names start end after line commit is a

pub returns-clause-request : goal.returns-clause-request
returns-clause-request g c =
    λ s guard is_filter h stop teller before after f line commit is a. answer_request _ before f after line commit is a

pub returns-clause-no_command : goal.returns-clause-no_command
returns-clause-no_command g c =
    λ s guard is_filter h stop teller before after f line commit is a. answer_none _ before f after line commit is a
