-- How new user entities are counted: in a list of their numbers that do not fall, and among the datoms.
use Rattle.std.proofs.Common.{◌≡◌, ℕ, suc, ◌+◌, ◌<◌, ◌≤◌, Bool, true, false, cond, ◌&&◌, ◌||◌, List, [], ◌∷◌, length, map, get_or, refl, ap}
use Rattle.std.proofs.Common.{sym, ◌∙◌, subst, arith, inl, inr, ◌⊎◌, eqb, leb}
use Rattle.std.specs.Prelude.{filter}
use Rattle.std.specs.List.{list_any, list_all}
use Rattle.std.specs.Ordering.{is_lt, nat_cmp}
use Rattle.std.specs.declared.cmp.Ordering.TheVariants.{Less, Equal, Greater}
use Rattle.std.specs.List.Sorted.{IsPermutation}
use Rattle.std.proofs.lemmas.Bool.{true≢false, and_parts, and_from, or_from, or_left, or_right, eqb-true, eqb-false, eq-eqb, ne_eqb}
use Rattle.std.proofs.lemmas.Bool.{leb-true, le-leb, cases_lt, cases_eq, lt-ltb}
use Rattle.std.proofs.lemmas.List.Sorted.{list_any-IsPermutation, length_permutation}
use Rattle.fb_values.specs.declared.facts.Datom.{Datom}
use Rattle.fb_values.specs.declared.facts.Entry.{Entry}
use Rattle.fb_values.specs.declared.facts.Value.{Value}
use Rattle.fb_values.specs.declared.facts.Value.TheVariants.{Ref}
use Rattle.fb_numbers.specs.Numbers.{transaction_of, user_entity, user_number, is_builtin}
use Rattle.fb_model.specs.History.{basis, users_issued}
use Rattle.fb_model.specs.Laws as model
use Rattle.tx_laws.specs.declared.numbers.KnownNumbers.{KnownNumbers}
use Rattle.tx_laws.specs.Users.{added_users, counted_on, is_known, is_known_value, is_known_datom}

-- ---- a list of numbers

abbrev pub ascends : List ℕ → Bool
ascends [] = true
ascends (n ∷ ns) = list_all (leb n) ns && ascends ns

counted-from : (ns : List ℕ) (last : ℕ) → last ≤ counted_on ns last
counted-from [] last = omega arith
counted-from (n ∷ ns) last = go (eqb n (last + 1)) refl (counted-from ns n) (counted-from ns last)
  where
    go : (b : Bool) → eqb n (last + 1) ≡ b → n ≤ counted_on ns n → last ≤ counted_on ns last → last ≤ counted_on ns (cond b n last)
    go true is next stays = omega (arith, eqb-true n (last + 1) is, next)
    go false is next stays = stays

counted-short : (ns : List ℕ) (last : ℕ) → counted_on ns last ≤ last + length ns
counted-short [] last = omega arith
counted-short (n ∷ ns) last = go (eqb n (last + 1)) refl (counted-short ns n) (counted-short ns last)
  where
    go : (b : Bool) → eqb n (last + 1) ≡ b → counted_on ns n ≤ n + length ns → counted_on ns last ≤ last + length ns
        → counted_on ns (cond b n last) ≤ last + suc (length ns)
    go true is next stays = omega (arith, eqb-true n (last + 1) is, next)
    go false is next stays = omega (arith, stays)

counted-has : (ns : List ℕ) (last j : ℕ) → last < j → j ≤ counted_on ns last → list_any (λ k. eqb k j) ns ≡ true
counted-has [] last j above within = absurd (omega arith)
counted-has (n ∷ ns) last j above within = go (eqb n (last + 1)) refl within (counted-has ns n j) (counted-has ns last j)
  where
    go : (b : Bool) → eqb n (last + 1) ≡ b
        → j ≤ counted_on ns (cond b n last) → (n < j → j ≤ counted_on ns n → list_any (λ k. eqb k j) ns ≡ true)
        → (last < j → j ≤ counted_on ns last → list_any (λ k. eqb k j) ns ≡ true)
        → list_any (λ k. eqb k j) (n ∷ ns) ≡ true
    go false is within next stays = or_right _ _ (stays above within)
    go true is within next stays =
        elim (cases_lt n j) [
          | inl lower ↦ or_right _ _ (next lower within)
          | inr upper ↦ or_left _ _ (eq-eqb n j (omega (arith, eqb-true n (last + 1) is)))
        ]

none_above : (n j : ℕ) (ns : List ℕ) → j < n → list_all (leb n) ns ≡ true → list_any (λ k. eqb k j) ns ≡ false
none_above n j [] lower every = refl
none_above n j (k ∷ ns) lower every =
    let parts = and_parts _ _ every in
    or_from _ _ (ne_eqb k j (λ same. omega (arith, leb-true n k parts.0, same))) (none_above n j ns lower parts.1)

counted-end : (ns : List ℕ) (last : ℕ) → ascends ns ≡ true → list_any (λ k. eqb k (counted_on ns last + 1)) ns ≡ false
counted-end [] last rising = refl
counted-end (n ∷ ns) last rising =
    go (eqb n (last + 1)) refl (counted-from ns n) (counted-from ns last) (counted-end ns n parts.1) (counted-end ns last parts.1)
  where
    parts : (list_all (leb n) ns ≡ true) × (ascends ns ≡ true)
    parts = and_parts _ _ rising

    stops : (b : Bool) → (n ≤ last) ⊎ (last + 1 < n) → list_any (λ k. eqb k (counted_on ns last + 1)) ns ≡ false → last ≤ counted_on ns last
        → eqb n (counted_on ns last + 1) ≡ false
    stops b (inl lower) rest from = ne_eqb n (counted_on ns last + 1) (λ same. omega (arith, same))
    stops b (inr higher) rest from =
        elim (cases_eq (counted_on ns last) last) [
          | inl same ↦ ne_eqb n (counted_on ns last + 1) (λ is. omega (arith, is, same))
          | inr more ↦
              absurd (true≢false
              (sym (counted-has ns last (last + 1) (omega arith) (omega (arith, more))) ∙ none_above n (last + 1) ns higher parts.0))
        ]

    which : (n ≡ last + 1 → ⊥) → (n ≤ last) ⊎ (last + 1 < n)
    which other = elim (cases_lt last n) [ inl above ↦ inr (omega (arith, above, other)) | inr below ↦ inl below ]

    go : (b : Bool) → eqb n (last + 1) ≡ b → n ≤ counted_on ns n → last ≤ counted_on ns last
        → list_any (λ k. eqb k (counted_on ns n + 1)) ns ≡ false → list_any (λ k. eqb k (counted_on ns last + 1)) ns ≡ false
        → list_any (λ k. eqb k (counted_on ns (cond b n last) + 1)) (n ∷ ns) ≡ false
    go true is from stay next rest = or_from _ _ (ne_eqb n (counted_on ns n + 1) (λ same. omega (arith, same, from))) next
    go false is from stay next rest = or_from _ _ (stops false (which (eqb-false n (last + 1) is)) rest stay) rest

-- ---- among the datoms

same_user : (e n : ℕ) → 0 < n → eqb e (user_entity n) ≡ eqb (user_number e) n
same_user e n some =
    elim (cases_eq e (user_entity n)) [
      | inl is ↦ eq-eqb e (user_entity n) is ∙ sym (eq-eqb (user_number e) n (omega (arith, is)))
      | inr other ↦ ne_eqb e (user_entity n) other ∙ sym (ne_eqb (user_number e) n (λ is. other (omega (arith, is))))
    ]

asserted-has : (ds : List Datom) (n : ℕ) → 0 < n → model.is_asserted ds (user_entity n) ≡ list_any (λ k. eqb k n) (added_users ds)
asserted-has [] n some = refl
asserted-has (d ∷ ds) n some = go d.added refl (asserted-has ds n some)
  where
    go : (b : Bool) → d.added ≡ b → model.is_asserted ds (user_entity n) ≡ list_any (λ k. eqb k n) (added_users ds)
        → ((eqb d.e (user_entity n) && b) || model.is_asserted ds (user_entity n))
        ≡ list_any (λ k. eqb k n) (map (λ (d : Datom). user_number d.e) (cond b (d ∷ filter (λ d. d.added) ds) (filter (λ d. d.added) ds)))
    go true is rest =
        ap (λ b. b || model.is_asserted ds (user_entity n)) (and_true (eqb d.e (user_entity n)) ∙ same_user d.e n some)
        ∙ ap (λ b. eqb (user_number d.e) n || b) rest
      where
        and_true : (b : Bool) → (b && true) ≡ b
        and_true true = refl
        and_true false = refl
    go false is rest = ap (λ b. b || model.is_asserted ds (user_entity n)) (and_false (eqb d.e (user_entity n))) ∙ rest
      where
        and_false : (b : Bool) → (b && false) ≡ false
        and_false true = refl
        and_false false = refl

users-length : (ds : List Datom) → length (added_users ds) ≤ length ds
users-length [] = omega arith
users-length (d ∷ ds) =
    elim d.added as (λ b.
    length (map (λ (d : Datom). user_number d.e) (cond b (d ∷ filter (λ d. d.added) ds) (filter (λ d. d.added) ds))) ≤ suc (length ds)) [
      | true ↦ omega (arith, users-length ds)
      | false ↦ omega (arith, users-length ds)
    ]

-- where numbers go on to m and no further, so are they counted
behind-is : (more ds : List Datom) (n m : ℕ) → n ≤ m → m ≤ n + length more
    → ((j : ℕ) → n < j → j ≤ m → model.is_asserted ds (user_entity j) ≡ true) → model.is_asserted ds (user_entity (m + 1)) ≡ false
    → model.users_behind more ds n ≡ m
behind-is [] ds n m from to every ends = omega (arith, from, to)
behind-is (x ∷ more) ds n m from to every ends =
    go (cases_eq n m) (λ upto. behind-is more ds (n + 1) m upto (omega (arith, to)) (λ j above within. every j (omega arith) within) ends)
  where
    go : (n ≡ m) ⊎ (n ≡ m → ⊥) → (n + 1 ≤ m → model.users_behind more ds (n + 1) ≡ m)
        → cond (model.is_asserted ds (user_entity (n + 1))) (model.users_behind more ds (n + 1)) n ≡ m
    go (inl same) next =
        ap (λ b. cond b (model.users_behind more ds (n + 1)) n) (ap (λ k. model.is_asserted ds (user_entity (k + 1))) same ∙ ends) ∙ same
    go (inr other) next =
        ap (λ b. cond b (model.users_behind more ds (n + 1)) n) (every (n + 1) (omega arith) (omega (arith, from, other)))
        ∙ next (omega (arith, from, other))

-- in the order of a sort
pub counted-is : (ds : List Datom) (ns : List ℕ) (issued : ℕ) → IsPermutation (added_users ds) ns → ascends ns ≡ true
    → counted_on ns issued ≡ model.users_behind ds ds issued
counted-is ds ns issued same rising =
    sym (behind-is ds ds issued (counted_on ns issued) (counted-from ns issued)
    (omega (arith, counted-short ns issued, length_permutation (added_users ds) ns same, users-length ds))
    (λ j above within. told j (omega arith) ∙ counted-has ns issued j above within)
    (told (counted_on ns issued + 1) (omega arith) ∙ counted-end ns issued rising))
  where
    told : (j : ℕ) → 0 < j → model.is_asserted ds (user_entity j) ≡ list_any (λ k. eqb k j) ns
    told j some = asserted-has ds j some ∙ list_any-IsPermutation (λ k. eqb k j) (added_users ds) ns same

-- ---- known numbers

pub behind-from : (more ds : List Datom) (n : ℕ) → n ≤ model.users_behind more ds n
behind-from [] ds n = omega arith
behind-from (_ ∷ more) ds n =
    elim (model.is_asserted ds (user_entity (n + 1))) as (λ b. n ≤ cond b (model.users_behind more ds (n + 1)) n) [
      | true ↦ omega (arith, behind-from more ds (n + 1))
      | false ↦ omega arith
    ]

abbrev pub known : ℕ → ℕ → ℕ → KnownNumbers
known last t users = record { basis = last; t = t; users = users }

abbrev pub known_of : List Entry → Entry → KnownNumbers
known_of h entry = known (basis h) entry.t (model.users_after h entry)

within : (n u v : ℕ) → u ≤ v → (b : Bool) → (b || (leb (user_entity 1) n && leb n (user_entity u))) ≡ true
    → (b || (leb (user_entity 1) n && leb n (user_entity v))) ≡ true
within n u v below true is = refl
within n u v below false is =
    let parts = and_parts _ _ is in and_from _ _ parts.0 (le-leb n (user_entity v) (omega (arith, leb-true n (user_entity u) parts.1)))

-- the user entities that were issued are among those in use
more_users : (x y own old new : Bool) → (old ≡ true → new ≡ true) → ((x || y) || own || new) ≡ ((((x || y) || old) || own) || new)
more_users true y own old new implies = refl
more_users false true own old new implies = refl
more_users false false true false new implies = refl
more_users false false true true new implies = refl
more_users false false false false new implies = refl
more_users false false false true new implies = implies refl

known-same : (h : List Entry) (entry : Entry) (n : ℕ) → is_known (known_of h entry) n ≡ model.is_known h entry n
known-same h entry n =
    more_users (is_builtin n) (leb (transaction_of 0) n && leb n (transaction_of (basis h)))
    (eqb n (transaction_of entry.t)) (leb (user_entity 1) n && leb n (user_entity (users_issued h)))
    (leb (user_entity 1) n && leb n (user_entity (model.users_after h entry)))
    (λ old. within n (users_issued h) (model.users_after h entry) (behind-from entry.datoms entry.datoms (users_issued h)) false old)

known_value-same : (h : List Entry) (entry : Entry) (v : Value) → is_known_value (known_of h entry) v ≡ model.is_known_value h entry v
known_value-same h entry (Ref n) = known-same h entry n
known_value-same h entry v = refl

pub all_known-same : (h : List Entry) (entry : Entry) (ds : List Datom)
    → list_all (is_known_datom (known_of h entry)) ds ≡ list_all (λ d. model.is_known h entry d.e && model.is_known_value h entry d.v) ds
all_known-same h entry [] = refl
all_known-same h entry (d ∷ ds) = rw (known-same h entry d.e, known_value-same h entry d.v, all_known-same h entry ds) refl

-- ---- what a sort leaves does not fall

not_below : (m n : ℕ) → is_lt (nat_cmp m n) ≡ false → n ≤ m
not_below m n h = elim (cases_lt m n) [
  | inl below ↦ absurd (true≢false (sym (ap (λ b. is_lt (cond b Less (cond (eqb m n) Equal Greater))) (lt-ltb m n below)) ∙ h))
  | inr upto ↦ upto
]

pub ascends-sorted : (ns : List ℕ)
    → ((k d : ℕ) → 0 ≤ k → k + 1 < length ns → is_lt (nat_cmp (get_or ns (k + 1) d) (get_or ns k d)) ≡ false) → ascends ns ≡ true
ascends-sorted [] s = refl
ascends-sorted (n ∷ []) s = refl
ascends-sorted (n ∷ m ∷ ns) s =
    let rest = ascends-sorted (m ∷ ns) (λ k d zero_upto within. later k d (s (suc k) d (omega arith) (omega (arith, within)))) in
    and_from _ _ (and_from _ _ (le-leb n m first) (above ns (and_parts _ _ rest).0)) rest
  where
    later : (k d : ℕ) → is_lt (nat_cmp (get_or (n ∷ m ∷ ns) (suc k + 1) d) (get_or (m ∷ ns) k d)) ≡ false
        → is_lt (nat_cmp (get_or (m ∷ ns) (k + 1) d) (get_or (m ∷ ns) k d)) ≡ false
    later k d h =
        let same : suc k + 1 ≡ suc (k + 1) = omega arith in
        subst (λ j. is_lt (nat_cmp (get_or (n ∷ m ∷ ns) j d) (get_or (m ∷ ns) k d)) ≡ false) same h

    first : n ≤ m
    first = not_below m n (s 0 0 (omega arith) (omega arith))

    above : (ks : List ℕ) → list_all (leb m) ks ≡ true → list_all (leb n) ks ≡ true
    above [] every = refl
    above (k ∷ ks) every =
        let parts = and_parts _ _ every in and_from _ _ (le-leb n k (omega (arith, leb-true m k parts.0, first))) (above ks parts.1)
