-- A tuple is another one than one that it begins with.
use Rattle.std.proofs.Common.{◌≡◌, ◌≤◌, false, [], ◌∷◌, length, refl, arith}
use Rattle.std.specs.Ordering.{is_eq}
use Rattle.tuple_model.specs.Tuples.{Tuple, tuple_cmp}

pub longer_differs : (s t : Tuple) → 1 ≤ length s → length t ≡ 0 → false ≡ is_eq (tuple_cmp s t)
longer_differs [] t some none = absurd (omega (arith, some))
longer_differs (m ∷ s) [] some none = refl
longer_differs (m ∷ s) (n ∷ t) some none = absurd (omega (arith, none))
