-- The second user entity with 1 and 2, and the first.
use Rattle.std.proofs.Common.{[], ◌∷◌, codes, refl, arith}
use Rattle.fb_numbers.specs.Numbers.{user_entity}
use Rattle.tuple_model.specs.Samples.{a, b, has}
use Rattle.tuple_model.proofs.examples.shared_tuples.Goals as goal

pub returns-clause-shared : goal.returns-clause-shared
returns-clause-shared c = record {
  names = codes "n/a" ∷ codes "n/b" ∷ [];
  listed = (0, omega arith, refl);
  attrs = a ∷ b ∷ [];
  named = refl;
  composite = refl;
  shared = record {
    changed = has 3 (user_entity 4) b 2;
    is_change = (0, omega arith, refl);
    other = user_entity 3;
    apart = omega arith;
    whole = refl;
    same = refl;
  };
}
