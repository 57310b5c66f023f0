-- No tempid is met twice.
use Rattle.std.proofs.Common.{◌≡◌, ℕ, zero, suc, Bool, true, false, ◌||◌, List, [], ◌∷◌, ◌++◌, cond, slice_get, refl, sym, ap, ◌∙◌, arith}
use Rattle.std.specs.Prelude.{Some, ⊤, nat_eq}
use Rattle.std.specs.List.{list_any}
use Rattle.std.proofs.lemmas.Bool.{or_parts, or_from}
use Rattle.std.proofs.lemmas.List.Folds.{list_any-append}
use Rattle.tx_resolve.specs.Tempids.{Tempid, is_same}
use Rattle.tx_resolve.specs.Meeting.{met_with}
use Rattle.tx_resolve.proofs.Alike.{same_back, same_itself}
use Rattle.tx_resolve.proofs.Options.{none_not, same_some}

abbrev pub AreDistinct : List Tempid → Type 0
AreDistinct [] = ⊤
AreDistinct (t ∷ ts) = (list_any (is_same t) ts ≡ false) × AreDistinct ts

distinct_push : (met : List Tempid) (t : Tempid) → AreDistinct met → list_any (is_same t) met ≡ false → AreDistinct (met ++ t ∷ [])
distinct_push [] t apart new = (refl, tt)
distinct_push (x ∷ met) t apart new =
    let parts = or_parts (is_same t x) (list_any (is_same t) met) new in (
      list_any-append (is_same x) met (t ∷ [])
          ∙ or_from (list_any (is_same x) met) (is_same x t || false) apart.0 (or_from (is_same x t) false (same_back x t ∙ parts.0) refl),
      distinct_push met t apart.1 parts.1,
    )

pub distinct_met : (met ts : List Tempid) → AreDistinct met → AreDistinct (met_with met ts)
distinct_met met [] apart = apart
distinct_met met (t ∷ ts) apart =
    distinct_met (cond (list_any (is_same t) met) met (met ++ t ∷ [])) ts (by_test (list_any (is_same t) met) refl)
  where
    by_test : (b : Bool) → list_any (is_same t) met ≡ b → AreDistinct (cond b met (met ++ t ∷ []))
    by_test true is = apart
    by_test false is = distinct_push met t apart is

-- ---- two of them are the same where their places are

pub next_same : (p q : ℕ) → nat_eq p q ≡ nat_eq (suc p) (suc q)
next_same p q = grind arith

pub first_no_next : (q : ℕ) → nat_eq 0 (suc q) ≡ false
first_no_next q = grind arith

next_no_first : (q : ℕ) → nat_eq (suc q) 0 ≡ false
next_no_first q = grind arith

first_first : nat_eq 0 0 ≡ true
first_first = refl

none_later : (f : Tempid → Bool) (ts : List Tempid) (p : ℕ) (t : Tempid) → list_any f ts ≡ false → slice_get ts p ≡ Some t → f t ≡ false
none_later f [] p t none is = none_not is
none_later f (x ∷ ts) zero t none is = ap f (sym (same_some is)) ∙ (or_parts (f x) (list_any f ts) none).0
none_later f (x ∷ ts) (suc p) t none is = none_later f ts p t (or_parts (f x) (list_any f ts) none).1 is

pub same_places : (ts : List Tempid) → AreDistinct ts → (p q : ℕ) (t u : Tempid) → slice_get ts p ≡ Some t → slice_get ts q ≡ Some u
    → is_same t u ≡ nat_eq p q
same_places [] apart p q t u is are = none_not is
same_places (x ∷ ts) apart zero zero t u is are =
    ap (λ y. is_same y u) (sym (same_some is)) ∙ ap (is_same x) (sym (same_some are)) ∙ same_itself x
same_places (x ∷ ts) apart zero (suc q) t u is are =
    ap (λ y. is_same y u) (sym (same_some is)) ∙ none_later (is_same x) ts q u apart.0 are ∙ sym (first_no_next q)
same_places (x ∷ ts) apart (suc p) zero t u is are =
    ap (is_same t) (sym (same_some are)) ∙ same_back t x ∙ none_later (is_same x) ts p t apart.0 is ∙ sym (next_no_first p)
same_places (x ∷ ts) apart (suc p) (suc q) t u is are = same_places ts apart.1 p q t u is are ∙ next_same p q
