-- The attributes of datoms that rise in AVET, where they come first.
use Rattle.std.proofs.Common.{◌≡◌, ◌≤◌, ◌<◌, ◌-◌, ℕ, zero, suc, List, [], ◌∷◌, length, get_or, Some, inl, inr, sym, subst, arith}
use Rattle.std.specs.Prelude.{IsTrue}
use Rattle.std.specs.List.{All, slice_get}
use Rattle.std.specs.Ordering.{nat_cmp, ordering_then}
use Rattle.std.specs.declared.cmp.Ordering.{Ordering}
use Rattle.std.specs.declared.cmp.Ordering.TheVariants.{Less}
use Rattle.std.proofs.lemmas.Bool.{cases_lt}
use Rattle.std.proofs.lemmas.Bool.Decides.{nat_tests}
use Rattle.std.proofs.lemmas.Option.{get_or_from_slice_get}
use Rattle.fb_values.specs.declared.facts.Datom.{Datom}
use Rattle.fb_values.specs.declared.indexes.Order.TheVariants.{Avet}
use Rattle.fb_values.specs.Orders.{key_cmp}
use Rattle.fb_covers.specs.Coverage.{Coverage, covers}
use Rattle.live_index.specs.Growth.{is_held}
use Rattle.fb_values.specs.Rising.{IsBelowAll, IsRising}

less-le : (m n : ℕ) (r : Ordering) → ordering_then (nat_cmp m n) r ≡ Less → m ≤ n
less-le m n r less = grind (arith, nat_tests)

attribute-le : (x y : Datom) → key_cmp Avet x y ≡ Less → x.a ≤ y.a
attribute-le x y less = less-le x.a y.a _ less

first-le : (x : Datom) (ds : List Datom) → IsBelowAll Avet x ds → (k : ℕ) (d : Datom) → k < length ds → x.a ≤ (get_or ds k d).a
first-le x [] before k d within = absurd (omega (arith, within))
first-le x (y ∷ ys) before zero d within = attribute-le x y before.0
first-le x (y ∷ ys) before (suc k) d within = first-le x ys before.1 k d (omega (arith, within))

rising-le : (ds : List Datom) → IsRising Avet ds → (i j : ℕ) (d : Datom) → i < j → j < length ds → (get_or ds i d).a ≤ (get_or ds j d).a
rising-le [] rising i j d before within = absurd (omega (arith, within))
rising-le (x ∷ xs) rising i zero d before within = absurd (omega (arith, before))
rising-le (x ∷ xs) rising zero (suc j) d before within = first-le x xs rising.0 j d (omega (arith, within))
rising-le (x ∷ xs) rising (suc i) (suc j) d before within = rising-le xs rising.1 i j d (omega (arith, before)) (omega (arith, within))

at_most : (ds : List Datom) → IsRising Avet ds → (i j : ℕ) (d : Datom) → i ≤ j → j < length ds → (get_or ds i d).a ≤ (get_or ds j d).a
at_most ds rising i j d before within =
    elim (cases_lt i j) [
      | inl below ↦ rising-le ds rising i j d below within
      | inr above ↦
          let same : i ≡ j = omega (arith, before, above) in subst (λ (n : ℕ). (get_or ds i d).a ≤ (get_or ds n d).a) same (omega arith)
    ]

-- where the first and the last datom have one attribute, all have it
pub all_of_one : (ds : List Datom) (first last : Datom) → IsRising Avet ds → slice_get ds 0 ≡ Some first
    → slice_get ds (length ds - 1) ≡ Some last → first.a ≡ last.a → All (λ d. d.a ≡ first.a) ds
all_of_one ds first last rising starts ends same k d within =
    let f : get_or ds 0 d ≡ first = get_or_from_slice_get ds 0 first d starts in
    let l : get_or ds (length ds - 1) d ≡ last = get_or_from_slice_get ds (length ds - 1) last d ends in
    let low : first.a ≤ (get_or ds k d).a =
    subst (λ (x : Datom). x.a ≤ (get_or ds k d).a) f (at_most ds rising 0 k d (omega arith) within) in
    let high : (get_or ds k d).a ≤ last.a =
    subst (λ (x : Datom). (get_or ds k d).a ≤ x.a) l
    (at_most ds rising k (length ds - 1) d (omega (arith, within)) (omega (arith, within))) in
    omega (arith, low, high, same)

-- and the index holds them all where it holds that one
pub held_of_one : (coverage : Coverage) (ds : List Datom) (a : ℕ) → All (λ d. d.a ≡ a) ds → IsTrue (covers coverage Avet a)
    → All (λ d. IsTrue (is_held coverage Avet d)) ds
held_of_one coverage ds a one held k d within = subst (λ (n : ℕ). IsTrue (covers coverage Avet n)) (sym (one k d within)) held
