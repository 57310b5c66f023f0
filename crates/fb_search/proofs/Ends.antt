-- Places in a list that is two lists end to end.
use Rattle.std.proofs.Common.{◌≡◌, ◌+◌, true, false, cond, List, [], ◌∷◌, ◌++◌, length, refl, ap, arith}
use Rattle.fb_values.specs.declared.facts.Datom.{Datom}
use Rattle.fb_values.specs.declared.indexes.Order.{Order}
use Rattle.fb_values.specs.declared.indexes.Probe.{Probe}
use Rattle.fb_values.specs.Rising.{IsBelowAll, IsRising}
use Rattle.fb_search.specs.Places.{is_below, place_of}
use Rattle.fb_search.proofs.Below.{below_earlier}

before-append_left : (order : Order) (d : Datom) (xs ys : List Datom) → IsBelowAll order d (xs ++ ys) → IsBelowAll order d xs
before-append_left order d [] ys h = tt
before-append_left order d (x ∷ xs) ys h = (h.0, before-append_left order d xs ys h.1)

before-append_at : (order : Order) (d : Datom) (xs : List Datom) (y : Datom) (ys : List Datom) → IsBelowAll order d (xs ++ y ∷ ys)
    → IsBelowAll order d (y ∷ ys)
before-append_at order d [] y ys h = h
before-append_at order d (x ∷ xs) y ys h = before-append_at order d xs y ys h.1

pub rising-append_left : (order : Order) (xs ys : List Datom) → IsRising order (xs ++ ys) → IsRising order xs
rising-append_left order [] ys h = tt
rising-append_left order (x ∷ xs) ys h = (before-append_left order x xs ys h.0, rising-append_left order xs ys h.1)

pub rising-append_right : (order : Order) (xs ys : List Datom) → IsRising order (xs ++ ys) → IsRising order ys
rising-append_right order [] ys h = h
rising-append_right order (x ∷ xs) ys h = rising-append_right order xs ys h.1

pub place_of-behind : (p : Probe) (xs : List Datom) (d : Datom) (ys : List Datom) → IsRising p.order (xs ++ d ∷ ys) → is_below p d ≡ true
    → place_of p (xs ++ d ∷ ys) ≡ length xs + 1 + place_of p ys
place_of-behind p [] d ys rising below = rw below (omega arith)
place_of-behind p (x ∷ xs) d ys rising below =
    let first : is_below p x ≡ true = below_earlier p x d (before-append_at p.order x xs d ys rising.0).0 below in
    rw (first, place_of-behind p xs d ys rising.1 below) (omega arith)

pub place_of-before : (p : Probe) (xs : List Datom) (d : Datom) (ys : List Datom) → is_below p d ≡ false
    → place_of p (xs ++ d ∷ ys) ≡ place_of p xs
place_of-before p [] d ys above = rw above refl
place_of-before p (x ∷ xs) d ys above = ap (λ n. cond (is_below p x) (1 + n) 0) (place_of-before p xs d ys above)
