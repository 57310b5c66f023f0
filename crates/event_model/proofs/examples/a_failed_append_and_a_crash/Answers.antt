-- By what the events come to.
use Rattle.std.proofs.Common.{refl, inl, inr, List, [], ◌∷◌, ◌++◌}
use Rattle.std.specs.Prelude.{codes}
use Rattle.fb_values.specs.declared.facts.Entry.{Entry}
use Rattle.event_model.specs.World.{World, Stop, opened}
use Rattle.event_model.specs.Event.{synced}
use Rattle.event_model.specs.Samples.{start}
use Rattle.event_model.proofs.Worlds.{a_by, a_happens, failed, fails, recorded, records, crashes_to, entry_of_text}
use Rattle.event_model.proofs.examples.a_failed_append_and_a_crash.Goals as goal

abbrev with_b_torn : World
with_b_torn = failed 1 (codes "b") (a_by 0)

-- the log with the torn entry
abbrev with_b : List Entry
with_b = (a_by 0).history ++ entry_of_text (codes "b") (a_by 0) ∷ []

abbrev torn_b : Stop
torn_b = record { t = 2; torn = entry_of_text (codes "b") (a_by 0) }

abbrev opened_again : World
opened_again = opened start.history 0 []

pub returns-clause-without : goal.returns-clause-without
returns-clause-without c = (
  opened (a_by 0).history 0 [],
  (
    a_by 0,
    a_happens 0,
    (
      with_b_torn,
      fails 1 (codes "b") (a_by 0) refl refl,
      (
        synced 0 with_b_torn,
        (torn_b, refl, refl),
        (opened (a_by 0).history 0 [], crashes_to (synced 0 with_b_torn) (a_by 0).history 0 (inl refl) (inl refl), refl),
      ),
    ),
  ),
  (refl, refl, refl),
)

pub returns-clause-with_torn : goal.returns-clause-with_torn
returns-clause-with_torn c = (
  opened with_b 0 [],
  (
    a_by 0,
    a_happens 0,
    (
      with_b_torn,
      fails 1 (codes "b") (a_by 0) refl refl,
      (
        synced 0 with_b_torn,
        (torn_b, refl, refl),
        (opened with_b 0 [], crashes_to (synced 0 with_b_torn) with_b 0 (inr (torn_b, refl, refl)) (inl refl), refl),
      ),
    ),
  ),
  (refl, refl, refl),
)

pub returns-clause-goes_on : goal.returns-clause-goes_on
returns-clause-goes_on c = (
  recorded 0 (codes "a") opened_again,
  (
    failed 1 (codes "b") start,
    fails 1 (codes "b") start refl refl,
    (
      opened_again,
      crashes_to (failed 1 (codes "b") start) start.history 0 (inl refl) (inl refl),
      (recorded 0 (codes "a") opened_again, records 0 (codes "a") opened_again refl refl, refl),
    ),
  ),
  refl,
)
