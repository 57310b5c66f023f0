-- By what the events come to.
use Rattle.std.proofs.Common.{refl}
use Rattle.event_model.specs.Event.{synced}
use Rattle.event_model.specs.Samples.{no_attribute}
use Rattle.event_model.proofs.Worlds.{a_by, a_and_b_by, a_happens, a_and_b_happen, refuses}
use Rattle.event_model.proofs.examples.two_sessions_record_one_transaction_each.Goals as goal

pub returns-clause-first : goal.returns-clause-first
returns-clause-first c = (a_and_b_by 0 1, a_and_b_happen 0 1, refl)

pub returns-clause-second : goal.returns-clause-second
returns-clause-second c = (a_and_b_by 0 1, a_and_b_happen 0 1, refl)

pub returns-clause-third : goal.returns-clause-third
returns-clause-third c = (a_and_b_by 0 1, a_and_b_happen 0 1, refl)

pub returns-clause-told : goal.returns-clause-told
returns-clause-told c = (synced 2 (a_by 0), (a_by 0, a_happens 0, (synced 2 (a_by 0), refl, refl)), refl)

pub returns-clause-refused : goal.returns-clause-refused
returns-clause-refused c =
    (synced 1 (a_by 0), (a_by 0, a_happens 0, (synced 1 (a_by 0), refuses 1 no_attribute (a_by 0) refl refl, refl)), refl)
