-- A list from one place on, and from the place before it.
use Rattle.std.proofs.Common.{◌≡◌, ℕ, zero, suc, ◌+◌, ◌-◌, ◌<◌, ◌≤◌, List, [], ◌∷◌, length, take, drop, get_or, refl, ap, sym, ◌∙◌, arith}
use Rattle.std.proofs.Common.{add-one, drop-cons}
use Rattle.fb_values.specs.declared.facts.Datom.{Datom}

pub drop_first : (ds : List Datom) (i : ℕ) (d : Datom) → i < length ds → d ≡ get_or ds i d → drop i ds ≡ d ∷ drop (i + 1) ds
drop_first ds i d inside is = rw (add-one, drop-cons ds i d inside) (ap (λ y. y ∷ drop (suc i) ds) (sym is))

-- one place further to the front there is one more
pub drop_before : (ds : List Datom) (i : ℕ) (d : Datom) → 0 < i → i ≤ length ds → d ≡ get_or ds (i - 1) d → drop (i - 1) ds ≡ d ∷ drop i ds
drop_before ds i d some within is =
    let next : i - 1 + 1 ≡ i = omega arith in
    drop_first ds (i - 1) d (omega arith) is ∙ ap (λ j. d ∷ drop j ds) next

-- past the end there is nothing
pub drop_end : (ds : List Datom) (i : ℕ) → length ds ≤ i → drop i ds ≡ []
drop_end [] zero past = refl
drop_end [] (suc i) past = refl
drop_end (x ∷ ds) zero past = absurd (omega arith)
drop_end (x ∷ ds) (suc i) past = drop_end ds i (omega arith)

pub whole : (ds : List Datom) → take (length ds) ds ≡ ds
whole [] = refl
whole (d ∷ ds) = ap (λ l. d ∷ l) (whole ds)

-- all that is behind a place
pub whole_rest : (ds : List Datom) (i : ℕ) → take (length ds - i) (drop i ds) ≡ drop i ds
whole_rest ds zero = ap (λ n. take n ds) same ∙ whole ds
  where
    same : length ds - 0 ≡ length ds
    same = omega arith
whole_rest [] (suc i) = ap (λ n. take n []) none
  where
    none : 0 - suc i ≡ 0
    none = omega arith
whole_rest (d ∷ ds) (suc i) = ap (λ n. take n (drop i ds)) same ∙ whole_rest ds i
  where
    same : suc (length ds) - suc i ≡ length ds - i
    same = omega arith
