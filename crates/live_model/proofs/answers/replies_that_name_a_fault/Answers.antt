use Rattle.std.proofs.Common.{refl, append_assoc}
use Rattle.std.specs.Fmt.{digits}
use Rattle.talk_model.proofs.PlainText.{line}
use Rattle.live_model.specs.Unreadable.{unreadable_reply, unreadable}
use Rattle.live_model.proofs.answers.replies_that_name_a_fault.Goals as goal

pub returns-clause-line : goal.returns-clause-line
returns-clause-line c kind byte = line (unreadable_reply kind byte) (unreadable kind byte) refl (simp append_assoc)

pub returns-clause-bad : goal.returns-clause-bad
unfolding digits
returns-clause-bad c = refl

pub returns-clause-unsupported : goal.returns-clause-unsupported
unfolding digits
returns-clause-unsupported c = refl

pub returns-clause-deep : goal.returns-clause-deep
unfolding digits
returns-clause-deep c = refl

pub returns-clause-cut : goal.returns-clause-cut
unfolding digits
returns-clause-cut c = refl

pub returns-clause-too_long : goal.returns-clause-too_long
unfolding digits
returns-clause-too_long c = refl
