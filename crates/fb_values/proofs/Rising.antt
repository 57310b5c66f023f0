-- Lists of datoms rise by neighbours where they rise by all that is behind.
use Rattle.std.proofs.Common.{◌≡◌, true, List, [], ◌∷◌, refl, ap}
use Rattle.std.specs.Ordering.{is_lt}
use Rattle.std.specs.declared.cmp.Ordering.{Ordering}
use Rattle.std.specs.declared.cmp.Ordering.TheVariants.{Less, Equal, Greater}
use Rattle.std.proofs.lemmas.Bool.{and_parts, and_from}
use Rattle.fb_values.specs.declared.facts.Datom.{Datom}
use Rattle.fb_values.specs.declared.indexes.Order.{Order}
use Rattle.fb_values.specs.Orders.{key_cmp}
use Rattle.fb_values.specs.OrderLaws.{key_cmp_total}
use Rattle.fb_values.specs.Rising.{rises, IsBelowAll, IsRising}

pub less_is : (o : Ordering) → is_lt o ≡ true → o ≡ Less
less_is Less h = refl
less_is Equal h = absurd (cc)
less_is Greater h = absurd (cc)

pub stands_later : (order : Order) (d x : Datom) (xs : List Datom) → key_cmp order d x ≡ Less → IsBelowAll order x xs
    → IsBelowAll order d xs
stands_later order d x [] less before = tt
stands_later order d x (y ∷ ys) less before = ((key_cmp_total order).trans d x y less before.0, stands_later order d x ys less before.1)

pub rises_from : (order : Order) (ds : List Datom) → IsRising order ds → rises order ds ≡ true
rises_from order [] rising = refl
rises_from order (x ∷ []) rising = refl
rises_from order (x ∷ y ∷ ds) rising = and_from _ _ (ap is_lt rising.0.0) (rises_from order (y ∷ ds) rising.1)

pub rising_from : (order : Order) (ds : List Datom) → rises order ds ≡ true → IsRising order ds
rising_from order [] is = tt
rising_from order (x ∷ []) is = (tt, tt)
rising_from order (x ∷ y ∷ ds) is =
    let both = and_parts (is_lt (key_cmp order x y)) (rises order (y ∷ ds)) is in
    let less = less_is (key_cmp order x y) both.0 in
    let rest = rising_from order (y ∷ ds) both.1 in
    ((less, stands_later order x y ds less rest.0), rest)
