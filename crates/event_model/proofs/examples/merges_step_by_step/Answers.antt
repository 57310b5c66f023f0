-- By what the events come to.
use Rattle.std.proofs.Common.{refl, inl, inr, [], ◌∷◌, arith}
use Rattle.std.specs.Prelude.{codes}
use Rattle.std.proofs.lemmas.List.Elements.{Contains-push}
use Rattle.event_model.specs.World.{World, opened}
use Rattle.event_model.proofs.Worlds.{a_by, a_happens, begun, kept, adopted, abandoned, recorded, records, crashes_to}
use Rattle.event_model.proofs.examples.merges_step_by_step.Goals as goal

abbrev with_b_behind : World
with_b_behind = recorded 0 (codes "b") (begun (a_by 0))

abbrev with_root : World
with_root = kept 1 with_b_behind

abbrev with_root_of_a : World
with_root_of_a = kept 1 (begun (a_by 0))

pub returns-clause-adopted : goal.returns-clause-adopted
returns-clause-adopted c = (
  adopted 1 with_root,
  (
    a_by 0,
    a_happens 0,
    (
      begun (a_by 0),
      (refl, refl),
      (
        with_b_behind,
        records 0 (codes "b") (begun (a_by 0)) refl refl,
        (
          with_root,
          (1, refl, refl),
          (adopted 1 with_root, (1, refl, Contains-push [] 1, refl), refl),
        ),
      ),
    ),
  ),
  (refl, refl),
)

pub returns-clause-given_up : goal.returns-clause-given_up
returns-clause-given_up c = (
  begun (abandoned (begun (a_by 0))),
  (
    a_by 0,
    a_happens 0,
    (
      begun (a_by 0),
      (refl, refl),
      (
        abandoned (begun (a_by 0)),
        (1, refl, refl),
        (begun (abandoned (begun (a_by 0))), (refl, refl), refl),
      ),
    ),
  ),
  refl,
)

pub returns-clause-found : goal.returns-clause-found
returns-clause-found c = (
  opened (a_by 0).history 1 (1 ∷ []),
  (
    a_by 0,
    a_happens 0,
    (
      begun (a_by 0),
      (refl, refl),
      (
        with_root_of_a,
        (1, refl, refl),
        (
          opened (a_by 0).history 1 (1 ∷ []),
          crashes_to with_root_of_a (a_by 0).history 1 (inl refl) (inr (Contains-push [] 1, omega arith)),
          refl,
        ),
      ),
    ),
  ),
  refl,
)

pub returns-clause-not_found : goal.returns-clause-not_found
returns-clause-not_found c = (
  opened (a_by 0).history 0 (1 ∷ []),
  (
    a_by 0,
    a_happens 0,
    (
      begun (a_by 0),
      (refl, refl),
      (
        with_root_of_a,
        (1, refl, refl),
        (opened (a_by 0).history 0 (1 ∷ []), crashes_to with_root_of_a (a_by 0).history 0 (inl refl) (inl refl), refl),
      ),
    ),
  ),
  refl,
)
