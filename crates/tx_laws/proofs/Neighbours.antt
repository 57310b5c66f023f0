-- A rising list, from one place on.
use Rattle.std.proofs.Common.{◌≡◌, ◌≤◌, true, ◌&&◌, List, [], ◌∷◌, length, refl, ap, arith}
use Rattle.std.specs.Ordering.{is_lt}
use Rattle.fb_values.specs.declared.facts.Datom.{Datom}
use Rattle.fb_values.specs.declared.indexes.Order.{Order}
use Rattle.fb_values.specs.Orders.{key_cmp}
use Rattle.fb_values.specs.Rising.{rises}

pub one_rises : (order : Order) (ds : List Datom) → length ds ≤ 1 → rises order ds ≡ true
one_rises order [] short = refl
one_rises order (d ∷ []) short = refl
one_rises order (d ∷ x ∷ ds) short = absurd (omega arith)

pub next_rises : (order : Order) (x y : Datom) (ds : List Datom) → is_lt (key_cmp order x y) ≡ true
    → rises order (x ∷ y ∷ ds) ≡ rises order (y ∷ ds)
next_rises order x y ds below = ap (λ b. b && rises order (y ∷ ds)) below
