-- By what the events come to.
use Rattle.std.proofs.Common.{refl}
use Rattle.std.specs.Prelude.{codes}
use Rattle.event_model.specs.World.{World, with_session}
use Rattle.event_model.specs.Event.{at_its_mail}
use Rattle.event_model.specs.Samples.{start}
use Rattle.event_model.proofs.Worlds.{a_by, a_happens, mailed, recorded, records}
use Rattle.event_model.proofs.examples.mail_between_two_sessions.Goals as goal

abbrev with_mail_of_a : World
with_mail_of_a = mailed 0 (a_by 1)

abbrev with_b_behind : World
with_b_behind = recorded 1 (codes "b") with_mail_of_a

abbrev with_old_mail : World
with_old_mail = recorded 0 (codes "a") (mailed 0 start)

pub returns-clause-glance : goal.returns-clause-glance
returns-clause-glance c = (
  with_session 0 at_its_mail with_b_behind,
  (
    a_by 1,
    a_happens 1,
    (
      with_mail_of_a,
      refl,
      (with_b_behind, records 1 (codes "b") with_mail_of_a refl refl, (with_session 0 at_its_mail with_b_behind, refl, refl)),
    ),
  ),
  refl,
)

pub returns-clause-held : goal.returns-clause-held
returns-clause-held c = (with_mail_of_a, (a_by 1, a_happens 1, (with_mail_of_a, refl, (with_mail_of_a, refl, refl))), refl)

pub returns-clause-old_mail : goal.returns-clause-old_mail
returns-clause-old_mail c = (
  with_session 0 at_its_mail with_old_mail,
  (
    mailed 0 start,
    refl,
    (with_old_mail, records 0 (codes "a") (mailed 0 start) refl refl, (with_session 0 at_its_mail with_old_mail, refl, refl)),
  ),
  refl,
)
