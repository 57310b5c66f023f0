-- The transactions of a log are a part of it, since each entry has the t of its place.
use Rattle.std.proofs.Common.{◌≡◌, ◌∙◌, ℕ, zero, suc, ◌+◌, ◌-◌, ◌<◌, ◌≤◌, Bool, true, false, cond, ◌&&◌, List, [], ◌∷◌, ◌++◌, length, take}
use Rattle.std.proofs.Common.{drop, max, min, refl, sym, ap, arith, inl, inr, leb, ltb, Some}
use Rattle.std.specs.Prelude.{filter}
use Rattle.std.specs.List.{slice_get}
use Rattle.std.proofs.lemmas.Bool.{cases_lt}
use Rattle.std.proofs.lemmas.Bool.Decides.{nat_tests}
use Rattle.fb_values.specs.declared.facts.Entry.{Entry}
use Rattle.fb_model.specs.History.{basis}
use Rattle.fb_model.specs.Lawful.{IsLawful, IsLawfulFrom}
use Rattle.fb_model.proofs.OneMoreEntry.{basis-push}
use Rattle.fb_model.proofs.Times.{next_t}
use Rattle.live_index.proofs.Walking.{drop_next}
use Rattle.view_model.specs.Scan.{transactions}
use Rattle.fb_scan.specs.Logs.{part}

-- the entries have the t from n on in a row
abbrev IsNumbered : ℕ → List Entry → Type 0
IsNumbered n [] = Unit {0}
IsNumbered n (entry ∷ rest) = (entry.t ≡ n) × IsNumbered (suc n) rest

numbered_from : (h rest : List Entry) (n : ℕ) → n ≡ basis h + 1 → IsLawfulFrom h rest → IsNumbered n rest
numbered_from h [] n is lawful = tt
numbered_from h (entry ∷ rest) n is lawful =
    let own : entry.t ≡ n = next_t h entry lawful.0 ∙ sym is in
    (own, numbered_from (h ++ entry ∷ []) rest (suc n) (omega (arith, basis-push h entry, own)) lawful.1)

numbered : (h : List Entry) → IsLawful h → IsNumbered 0 h
numbered [] lawful = absurd lawful
numbered (entry ∷ rest) lawful =
    let own : entry.t ≡ 0 = ap (λ (e : Entry). e.t) lawful.0 in
    (own, numbered_from (entry ∷ []) rest 1 (omega (arith, own)) lawful.1)

abbrev is_within : ℕ → ℕ → ℕ → Bool
is_within from to t = (leb 1 t && leb from t) && ltb t to

inside : (from to t : ℕ) → max from 1 ≤ t → t < to → is_within from to t ≡ true
inside from to t low high = grind (arith, nat_tests)

early : (from to t : ℕ) → t < max from 1 → is_within from to t ≡ false
early from to t low = grind (arith, nat_tests)

late : (from to t : ℕ) → to ≤ t → is_within from to t ≡ false
late from to t high = grind (arith, nat_tests)

-- the part of a list whose first entry has the t n
abbrev part_at : ℕ → ℕ → ℕ → List Entry → List Entry
part_at low to n h = take (min to (n + length h) - max low n) (drop (low - n) h)

take_none : (n : ℕ) (h : List Entry) → n ≡ 0 → take n h ≡ []
take_none n h is = ap (λ m. take m h) is

no_part : (i j : ℕ) → take {A = Entry} i (drop {A = Entry} j []) ≡ []
no_part zero zero = refl
no_part zero (suc j) = refl
no_part (suc i) zero = refl
no_part (suc i) (suc j) = refl

part_numbered : (from to n : ℕ) (h : List Entry) → IsNumbered n h
    → filter (λ entry. is_within from to entry.t) h ≡ part_at (max from 1) to n h
part_numbered from to n [] own = sym (no_part (min to (n + 0) - max (max from 1) n) (max from 1 - n))
part_numbered from to n (x ∷ xs) own =
    elim (cases_lt n (max from 1)) [
      | inl low ↦
          let skipped : is_within from to x.t ≡ false = ap (is_within from to) own.0 ∙ early from to n low in
          let one : max from 1 - n ≡ suc (max from 1 - suc n) = omega (arith, low) in
          let count : min to (suc n + length xs) - max (max from 1) (suc n) ≡ min to (n + suc (length xs)) - max (max from 1) n =
          omega (arith, low) in
          ap (λ b. cond b (x ∷ filter (λ entry. is_within from to entry.t) xs) (filter (λ entry. is_within from to entry.t) xs)) skipped
          ∙ part_numbered from to (suc n) xs own.1
          ∙ ap (λ m. take m (drop (max from 1 - suc n) xs)) count
          ∙ ap (λ m. take (min to (n + suc (length xs)) - max (max from 1) n) (drop m (x ∷ xs))) (sym one)
      | inr high ↦ elim (cases_lt n to) [
        | inl before ↦
            let taken : is_within from to x.t ≡ true = ap (is_within from to) own.0 ∙ inside from to n high before in
            let front : max from 1 - n ≡ 0 = omega (arith, high) in
            let next : max from 1 - suc n ≡ 0 = omega (arith, high) in
            let count : min to (n + suc (length xs)) - max (max from 1) n ≡ suc (min to (suc n + length xs) - max (max from 1) (suc n)) =
            omega (arith, high, before) in
            ap (λ b. cond b (x ∷ filter (λ entry. is_within from to entry.t) xs) (filter (λ entry. is_within from to entry.t) xs)) taken
            ∙ ap (λ l. x ∷ l) (part_numbered from to (suc n) xs own.1
            ∙ ap (λ m. take (min to (suc n + length xs) - max (max from 1) (suc n)) (drop m xs)) next)
            ∙ ap (λ m. take m (x ∷ xs)) (sym count)
            ∙ ap (λ m. take (min to (n + suc (length xs)) - max (max from 1) n) (drop m (x ∷ xs))) (sym front)
        | inr beyond ↦
            let skipped : is_within from to x.t ≡ false = ap (is_within from to) own.0 ∙ late from to n beyond in
            ap (λ b. cond b (x ∷ filter (λ entry. is_within from to entry.t) xs) (filter (λ entry. is_within from to entry.t) xs)) skipped
            ∙ part_numbered from to (suc n) xs own.1
            ∙ take_none (min to (suc n + length xs) - max (max from 1) (suc n)) (drop (max from 1 - suc n) xs) (omega (arith, beyond))
            ∙ sym (take_none (min to (n + suc (length xs)) - max (max from 1) n) (drop (max from 1 - n) (x ∷ xs)) (omega (arith, beyond)))
      ]
    ]

pub part-transactions : (h : List Entry) (from to : ℕ) → IsLawful h → part h (max from 1) (min to (length h)) ≡ transactions h from to
part-transactions h from to lawful =
    sym (part_numbered from to 0 h (numbered h lawful)
    ∙ ap (λ m. take (min to (0 + length h) - max (max from 1) 0) (drop m h)) start
    ∙ ap (λ m. take m (drop (max from 1) h)) count)
  where
    start : max from 1 - 0 ≡ max from 1
    start = omega arith

    count : min to (0 + length h) - max (max from 1) 0 ≡ min to (length h) - max from 1
    count = omega arith

-- ---- one entry after another

pub part_done : (h : List Entry) (from to : ℕ) → to ≤ from → part h from to ≡ []
part_done h from to past = take_none (to - from) (drop from h) (omega (arith, past))

pub part_next : (h : List Entry) (from to : ℕ) (entry : Entry) → from < to → slice_get h from ≡ Some entry
    → part h from to ≡ entry ∷ part h (from + 1) to
part_next h from to entry before read =
    let one : to - from ≡ suc (to - (from + 1)) = omega (arith, before) in
    ap (take (to - from)) (drop_next h from entry read) ∙ ap (λ m. take m (entry ∷ drop (from + 1) h)) one
