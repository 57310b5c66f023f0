-- The instants of a lawful history rise, so that its early entries are the first ones.
use Rattle.std.proofs.Common.{◌≡◌, ◌+◌, ◌<◌, ◌≤◌, ℕ, zero, suc, ℤ, pos, negsuc, true, false, cond, List, [], ◌∷◌, ◌++◌, length, refl, sym}
use Rattle.std.proofs.Common.{subst, arith, Some}
use Rattle.std.specs.Prelude.{filter, slice_get, int_lt}
use Rattle.std.proofs.lemmas.Bool.{and_parts}
use Rattle.std.proofs.lemmas.Int.{ints}
use Rattle.std.proofs.lemmas.List.Sums.{fold-append}
use Rattle.fb_values.specs.declared.facts.Entry.{Entry}
use Rattle.fb_numbers.specs.Numbers.{is_instant}
use Rattle.fb_model.specs.History.{last_instant}
use Rattle.fb_model.specs.Lawful.{IsLawful, IsLawfulFrom}
use Rattle.fb_names.specs.declared.instants.Early.{Early}
use Rattle.fb_names.specs.declared.instants.Early.TheVariants.{Before, UpTo}
use Rattle.fb_names.specs.Early.{is_early, count_early}

-- each instant is above the one given, and above those of the entries before it
abbrev pub AreLater : ℤ → List Entry → Type 0
AreLater z [] = Unit {0}
AreLater z (e ∷ es) = (int_lt z e.instant ≡ true) × AreLater e.instant es

later_from : (h rest : List Entry) → IsLawfulFrom h rest → AreLater (last_instant h) rest
later_from h [] lawful = tt
later_from h (e ∷ rest) lawful = (
  (and_parts (int_lt (last_instant h) e.instant) (is_instant e.instant) lawful.0.later_instant).0,
  subst (λ z. AreLater z rest) (fold-append (λ _ entry. entry.instant) (pos 0) h (e ∷ [])) (later_from (h ++ e ∷ []) rest lawful.1),
)

-- the first entry's is above -1
pub are_later : (h : List Entry) → IsLawful h → AreLater (negsuc 0) h
are_later [] lawful = absurd lawful
are_later (e ∷ rest) lawful =
    (subst (λ first. int_lt (negsuc 0) first.instant ≡ true) (sym lawful.0) refl, later_from (e ∷ []) rest lawful.1)

lt_trans : (x y z : ℤ) → int_lt x y ≡ true → int_lt y z ≡ true → int_lt x z ≡ true
lt_trans x y z less more = grind (arith, ints)

above_all : (z : ℤ) (h : List Entry) (i : ℕ) (e : Entry) → AreLater z h → slice_get h i ≡ Some e → int_lt z e.instant ≡ true
above_all z [] i e later is = absurd (cc)
above_all z (x ∷ h) zero e later is = let same : x ≡ e = cc in subst (λ first. int_lt z first.instant ≡ true) same later.0
above_all z (x ∷ h) (suc i) e later is = lt_trans z x.instant e.instant later.0 (above_all x.instant h i e later.1 is)

rising : (z : ℤ) (h : List Entry) (i j : ℕ) (x y : Entry) → AreLater z h → i < j → slice_get h i ≡ Some x → slice_get h j ≡ Some y
    → int_lt x.instant y.instant ≡ true
rising z [] i j x y later less at_i at_j = absurd (cc)
rising z (e ∷ h) i zero x y later less at_i at_j = absurd (omega arith)
rising z (e ∷ h) zero (suc j) x y later less at_i at_j =
    let same : e ≡ x = cc in subst (λ first. int_lt first.instant y.instant ≡ true) same (above_all e.instant h j y later.1 at_j)
rising z (e ∷ h) (suc i) (suc j) x y later less at_i at_j = rising e.instant h i j x y later.1 (omega arith) at_i at_j

pub instants_rise : (h : List Entry) (i j : ℕ) (x y : Entry) → IsLawful h → i < j → slice_get h i ≡ Some x → slice_get h j ≡ Some y
    → int_lt x.instant y.instant ≡ true
instants_rise h i j x y lawful less at_i at_j = rising (negsuc 0) h i j x y (are_later h lawful) less at_i at_j

-- ---- early instants come first

early_before : (early : Early) (x y : ℤ) → int_lt x y ≡ true → is_early early y ≡ true → is_early early x ≡ true
early_before (Before end) x y less is = grind (arith, ints)
early_before (UpTo end) x y less is = grind (arith, ints)

late_behind : (early : Early) (x y : ℤ) → int_lt x y ≡ true → is_early early x ≡ false → is_early early y ≡ false
late_behind (Before end) x y less is = grind (arith, ints)
late_behind (UpTo end) x y less is = grind (arith, ints)

-- behind a late one there is no early one
none_behind : (early : Early) (z : ℤ) (h : List Entry) → AreLater z h → is_early early z ≡ false → count_early h early ≡ 0
none_behind early z [] later late = refl
none_behind early z (e ∷ h) later late =
    let here = late_behind early z e.instant later.0 late in
    rw here (none_behind early e.instant h later.1 here)

-- before an early one there is no late one
first_is_early : (early : Early) (z : ℤ) (h : List Entry) (i : ℕ) (e : Entry) → AreLater z h → slice_get h i ≡ Some e
    → is_early early e.instant ≡ true → is_early early z ≡ true
first_is_early early z h i e later at is = early_before early z e.instant (above_all z h i e later at) is

counted_behind : (early : Early) (z : ℤ) (h : List Entry) (i : ℕ) (e : Entry) → AreLater z h → slice_get h i ≡ Some e
    → is_early early e.instant ≡ true → i < count_early h early
counted_behind early z [] i e later at is = absurd (cc)
counted_behind early z (x ∷ h) zero e later at is =
    let same : e ≡ x = cc in
    let here : is_early early x.instant ≡ true = subst (λ first. is_early early first.instant ≡ true) same is in
    rw here (omega arith)
counted_behind early z (x ∷ h) (suc i) e later at is =
    let here = first_is_early early x.instant h i e later.1 at is in
    let more = counted_behind early x.instant h i e later.1 at is in
    rw here (omega arith)

counted_upto : (early : Early) (z : ℤ) (h : List Entry) (i : ℕ) (e : Entry) → AreLater z h → slice_get h i ≡ Some e
    → is_early early e.instant ≡ false → count_early h early ≤ i
counted_upto early z [] i e later at is = absurd (cc)
counted_upto early z (x ∷ h) zero e later at is =
    let same : e ≡ x = cc in
    let here : is_early early x.instant ≡ false = subst (λ first. is_early early first.instant ≡ false) same is in
    rw (here, none_behind early x.instant h later.1 here) (omega arith)
counted_upto early z (x ∷ h) (suc i) e later at is =
    let more = counted_upto early x.instant h i e later.1 at is in
    elim (is_early early x.instant) as (λ b.
    length (cond b (x ∷ filter (λ entry. is_early early entry.instant) h) (filter (λ entry. is_early early entry.instant) h)) ≤ suc i) [
      | true ↦ omega arith
      | false ↦ omega arith
    ]

-- in a lawful history an early entry is counted, and a late one is not
pub early_is_counted : (early : Early) (h : List Entry) (i : ℕ) (e : Entry) → IsLawful h → slice_get h i ≡ Some e
    → is_early early e.instant ≡ true → i + 1 ≤ count_early h early
early_is_counted early h i e lawful at is = let more = counted_behind early (negsuc 0) h i e (are_later h lawful) at is in omega arith

pub late_is_not_counted : (early : Early) (h : List Entry) (i : ℕ) (e : Entry) → IsLawful h → slice_get h i ≡ Some e
    → is_early early e.instant ≡ false → count_early h early ≤ i
late_is_not_counted early h i e lawful at is = counted_upto early (negsuc 0) h i e (are_later h lawful) at is

pub counted_are_entries : (early : Early) (h : List Entry) → count_early h early ≤ length h
counted_are_entries early [] = omega arith
counted_are_entries early (e ∷ h) =
    let more = counted_are_entries early h in
    elim (is_early early e.instant) as (λ b. length
    (cond b (e ∷ filter (λ entry. is_early early entry.instant) h) (filter (λ entry. is_early early entry.instant) h)) ≤ suc (length h)) [
      | true ↦ omega arith
      | false ↦ omega arith
    ]
