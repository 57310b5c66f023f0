-- Tempids that are met, one after another, and their places.
use Rattle.std.proofs.Common.{◌≡◌, ℕ, suc, Bool, true, false, ◌||◌, cond, List, [], ◌∷◌, ◌++◌, length, replicate, slice_get, refl, sym, ap}
use Rattle.std.proofs.Common.{◌∙◌, subst}
use Rattle.std.specs.Prelude.{Some, None, option_map, is_some}
use Rattle.std.specs.List.{list_any}
use Rattle.std.proofs.lemmas.List.{length_push, length-replicate, replicate_more}
use Rattle.tx_model.specs.Tempids.{by_text}
use Rattle.tx_resolve.specs.declared.meeting.Met.{Met}
use Rattle.tx_resolve.specs.Tempids.{Tempid, is_same, place_in}
use Rattle.tx_resolve.specs.Meeting.{met_with, named_places, place_of, AreMet, Meets}
use Rattle.tx_resolve.specs.Holders.{no_slot}
use Rattle.tx_resolve.proofs.Alike.{same_are}
use Rattle.tx_resolve.proofs.Options.{none_not, same_some, map_some, map_none, is_some-map}

pub met_with_append : (met xs ys : List Tempid) → met_with met (xs ++ ys) ≡ met_with (met_with met xs) ys
met_with_append met [] ys = refl
met_with_append met (x ∷ xs) ys = met_with_append (cond (list_any (is_same x) met) met (met ++ x ∷ [])) xs ys

-- ---- places in a list of tempids

pub some_met : (met : List Tempid) (t : Tempid) → is_some (place_in met t) ≡ list_any (is_same t) met
some_met [] t = refl
some_met (x ∷ xs) t = at (some_met xs t) (is_same t x)
  where
    at : is_some (place_in xs t) ≡ list_any (is_same t) xs → (b : Bool)
        → is_some (cond b (Some 0) (option_map suc (place_in xs t))) ≡ (b || list_any (is_same t) xs)
    at rest true = refl
    at rest false = is_some-map suc (place_in xs t) ∙ rest

-- one more at the end has the next place, and the others have the places that they had
place_here : (met : List Tempid) (t q : Tempid) → is_same q t ≡ true → place_in met q ≡ None
    → place_in (met ++ t ∷ []) q ≡ Some (length met)
place_here [] t q is none = ap (λ b. cond b (Some 0) None) is
place_here (x ∷ xs) t q is none = at (place_here xs t q is) (is_same q x) none
  where
    at : (place_in xs q ≡ None → place_in (xs ++ t ∷ []) q ≡ Some (length xs)) → (b : Bool)
        → cond b (Some 0) (option_map suc (place_in xs q)) ≡ None
        → cond b (Some 0) (option_map suc (place_in (xs ++ t ∷ []) q)) ≡ Some (suc (length xs))
    at rest true none = none_not (sym none)
    at rest false none = ap (option_map suc) (rest (map_none suc (place_in xs q) none))

place_other : (met : List Tempid) (t q : Tempid) → is_same q t ≡ false → place_in (met ++ t ∷ []) q ≡ place_in met q
place_other [] t q apart = ap (λ b. cond b (Some 0) None) apart
place_other (x ∷ xs) t q apart = ap (λ o. cond (is_same q x) (Some 0) (option_map suc o)) (place_other xs t q apart)

-- the tempid stands at its place
pub place_at : (met : List Tempid) (t : Tempid) (p : ℕ) → place_in met t ≡ Some p → slice_get met p ≡ Some t
place_at [] t p is = none_not is
place_at (x ∷ xs) t p is = at (place_at xs t) (is_same t x) refl is
  where
    at : ((p : ℕ) → place_in xs t ≡ Some p → slice_get xs p ≡ Some t) → (b : Bool) → is_same t x ≡ b
        → cond b (Some 0) (option_map suc (place_in xs t)) ≡ Some p → slice_get (x ∷ xs) p ≡ Some t
    at rest true same is = subst (λ q. slice_get (x ∷ xs) q ≡ Some t) (same_some is) (ap Some (sym (same_are t x same)))
    at rest false same is =
        let from = map_some suc (place_in xs t) p is in
        subst (λ q. slice_get (x ∷ xs) q ≡ Some t) from.gives (rest from.from from.is)

-- ---- what is kept of them

pub meets_none : (a : Met) → Meets a a []
meets_none a = record { keeps = λ met are. are }

pub meets_both : {a b c : Met} {xs ys : List Tempid} → Meets a b xs → Meets b c ys → Meets a c (xs ++ ys)
meets_both {a} {b} {c} {xs} {ys} one more = record {
  keeps = λ met are. subst (AreMet c) (sym (met_with_append met xs ys)) (more.keeps (met_with met xs) (one.keeps met are));
}

-- a tempid that was met before
pub meets_again : (a b : Met) (t : Tempid) → ((q : Tempid) → place_of b q ≡ place_of a q) → b.named.entries ≡ a.named.entries
    → b.slots.items ≡ a.slots.items → is_some (place_of a t) ≡ true → Meets a b (t ∷ [])
meets_again a b t places names slots is = record {
  keeps = λ met are.
      let again = sym (some_met met t) ∙ ap is_some (sym (are.places_are t)) ∙ is in
      subst (AreMet b) (ap (λ x. cond x met (met ++ t ∷ [])) (sym again)) (record {
        places_are = λ q. places q ∙ are.places_are q;
        names_are = names ∙ are.names_are;
        fresh = slots ∙ are.fresh;
      });
}

-- a tempid that is new has the next place
module _ (a b : Met) (t : Tempid) (new : place_of a t ≡ None)
    (here : (q : Tempid) → is_same q t ≡ true → place_of b q ≡ Some (length a.slots.items))
    (other : (q : Tempid) → is_same q t ≡ false → place_of b q ≡ place_of a q)
    (names : (met : List Tempid) → place_in met t ≡ None → length a.slots.items ≡ length met
    → a.named.entries ≡ by_text (named_places 0 met) → b.named.entries ≡ by_text (named_places 0 (met ++ t ∷ [])))
    (slots : b.slots.items ≡ a.slots.items ++ no_slot ∷ []) where
  pub meets_new : Meets a b (t ∷ [])
  meets_new = record {
    keeps = λ met are.
        let absent : place_in met t ≡ None = sym (are.places_are t) ∙ new in
        let first = sym (some_met met t) ∙ ap is_some absent in
        subst (AreMet b) (ap (λ x. cond x met (met ++ t ∷ [])) (sym first)) (more met are absent);
  }
    where
      more : (met : List Tempid) → AreMet a met → place_in met t ≡ None → AreMet b (met ++ t ∷ [])
      more met are absent = record {
        places_are = λ q. at q (is_same q t) refl;
        names_are = names met absent counted are.names_are;
        fresh =
            slots
            ∙ ap (λ l. l ++ no_slot ∷ []) are.fresh
            ∙ replicate_more (length met) no_slot
            ∙ ap (λ n. replicate n no_slot) (sym (length_push met t));
      }
        where
          counted : length a.slots.items ≡ length met
          counted = ap length are.fresh ∙ length-replicate (length met) no_slot

          at : (q : Tempid) (same : Bool) → is_same q t ≡ same → place_of b q ≡ place_in (met ++ t ∷ []) q
          at q true is =
              here q is ∙ ap Some counted ∙ sym (place_here met t q is (ap (place_in met) (same_are q t is) ∙ absent))
          at q false is = other q is ∙ are.places_are q ∙ sym (place_other met t q is)
