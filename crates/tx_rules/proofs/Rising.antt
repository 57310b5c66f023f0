-- Lists that are put in order rise.
use Rattle.std.proofs.Common.{◌≡◌, Bool, true, false, cond, ◌&&◌, List, [], ◌∷◌, refl, sym, ◌∙◌}
use Rattle.std.specs.Ordering.{is_lt}
use Rattle.std.proofs.lemmas.Bool.{and_parts, and_from}
use Rattle.fb_values.specs.declared.facts.Datom.{Datom}
use Rattle.fb_values.specs.declared.indexes.Order.{Order}
use Rattle.fb_values.specs.Orders.{key_cmp}
use Rattle.fb_values.specs.Rising.{rises}
use Rattle.fb_model.specs.Rising.{put_in_order, in_order}

is_below : Order → Datom → List Datom → Bool
is_below order x [] = true
is_below order x (y ∷ ys) = is_lt (key_cmp order x y)

rises-cons : (order : Order) (x : Datom) (ds : List Datom) → rises order (x ∷ ds) ≡ (is_below order x ds && rises order ds)
unfolding is_below
rises-cons order x [] = refl
rises-cons order x (y ∷ ds) = refl

put-below : (order : Order) (x d : Datom) (ds : List Datom) → is_lt (key_cmp order x d) ≡ true → is_below order x ds ≡ true
    → is_below order x (put_in_order order d ds) ≡ true
unfolding is_below
put-below order x d [] lt below = lt
put-below order x d (y ∷ ds) lt below = go (is_lt (key_cmp order d y)) (is_lt (key_cmp order y d))
  where
    go : (b c : Bool) → is_below order x (cond b (d ∷ y ∷ ds) (cond c (y ∷ put_in_order order d ds) (y ∷ ds))) ≡ true
    go true c = lt
    go false true = below
    go false false = below

put-rises : (order : Order) (d : Datom) (ds : List Datom) → rises order ds ≡ true → rises order (put_in_order order d ds) ≡ true
put-rises order d [] rising = refl
put-rises order d (y ∷ ds) rising =
    let parts = and_parts (is_below order y ds) (rises order ds) (sym (rises-cons order y ds) ∙ rising) in
    go (is_lt (key_cmp order d y)) refl (is_lt (key_cmp order y d)) refl parts.0 (put-rises order d ds parts.1)
  where
    go : (b : Bool) → is_lt (key_cmp order d y) ≡ b → (c : Bool) → is_lt (key_cmp order y d) ≡ c → is_below order y ds ≡ true
        → rises order (put_in_order order d ds) ≡ true
        → rises order (cond b (d ∷ y ∷ ds) (cond c (y ∷ put_in_order order d ds) (y ∷ ds))) ≡ true
    go true is c also below rest = and_from _ _ is rising
    go false is true also below rest = rises-cons order y (put_in_order order d ds) ∙ and_from _ _ (put-below order y d ds also below) rest
    go false is false also below rest = rising

pub in_order-rises : (order : Order) (ds : List Datom) → rises order (in_order order ds) ≡ true
in_order-rises order [] = refl
in_order-rises order (d ∷ ds) = put-rises order d (in_order order ds) (in_order-rises order ds)
