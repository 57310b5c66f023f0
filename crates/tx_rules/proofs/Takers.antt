-- Additions under unique attributes, by attribute and value.
use Rattle.std.proofs.Common.{◌≡◌, ℕ, zero, suc, ◌+◌, ◌<◌, ◌≤◌, Bool, true, false, cond, not, ◌&&◌, ◌||◌, eqb, leb, List, [], ◌∷◌, length}
use Rattle.std.proofs.Common.{get_or, drop, refl, ap, sym, ◌∙◌, subst, arith, inl, inr, Option, Some, None}
use denote.Ref.{Bor}
use Rattle.std.specs.Prelude.{filter, Contains, IsPermutation, is_some}
use Rattle.std.specs.List.{list_any, list_all, position, position_from}
use Rattle.std.specs.List.Sorted.{IsSortedBy}
use Rattle.std.specs.Ordering.{is_eq}
use Rattle.std.proofs.lemmas.Bool.{true≢false, and_parts, and_from, and_left, leb-true, le-leb, eqb-true, eq-eqb, cases_order}
use Rattle.std.proofs.lemmas.List.Folds.{list_any_at}
use Rattle.std.proofs.lemmas.List.Sums.{length-filter}
use Rattle.std.proofs.lemmas.Iterator.Adapters.{position_from-zero}
use Rattle.std.proofs.lemmas.List.Quantifiers.{position-Some}
use Rattle.std.proofs.lemmas.List.Sorted.{sum_by-IsPermutation, list_any-IsPermutation, IsPermutation-refl}
use Rattle.std.proofs.lemmas.List.Elements.{filter_passes, All-contains}
use Rattle.fb_values.specs.declared.facts.Datom.{Datom}
use Rattle.fb_values.specs.declared.facts.Entry.{Entry}
use Rattle.fb_values.specs.declared.facts.Value.{Value}
use Rattle.fb_model.specs.Facts.{value_eq}
use Rattle.fb_model.specs.Schema.{is_unique}
use Rattle.tx_asks.specs.declared.triples.Triple.{Triple}
use Rattle.tx_asks.specs.Triples.{rise}
use Rattle.tx_rules.specs.Places.{first_where}
use Rattle.tx_rules.specs.Neighbours.{behind, are_of_one_value, is_beside}
use Rattle.tx_rules.specs.Conflicts.{is_addition}
use Rattle.tx_rules.specs.Holders.{is_taker, is_other_taker, is_held_by_another, held_at, is_shared, first_shared, value_order, AreByValue}
use Rattle.tx_rules.specs.Holders.{is_taken_twice, first_among}
use Rattle.tx_rules.proofs.Earlier.{earlier-none, first_where-same, first_where-filter}
use Rattle.tx_rules.proofs.Passing.{two_kept, another_passes, PassesBeside}
use Rattle.tx_rules.proofs.Sorted.{value_order_total, value_alike, beside-kept, triple_alike, apart, rise-filter}
use Rattle.tx_rules.proofs.Triples.{value_eq-true, value_eq-refl}
use Rattle.tx_rules.proofs.Crowded.{same_tests, IsFound, found, all-at, any-filter, behind-at, length-behind}
use Rattle.tx_rules.proofs.Reached.{reaches, same_places, reaches-first_where, first_where-members}

-- whoever has a neighbour of its value is not alone with it
pub shared-twice : (h : List Entry) (schema changes : List Datom) (takers : List Triple) → AreByValue takers → (i : ℕ) (d : Triple)
    → i < length takers
    → cond (is_beside are_of_one_value takers i d || is_held_by_another h schema changes (get_or takers i d)) (get_or takers i d).added None
    ≡ cond (is_taken_twice takers (get_or takers i d) || is_held_by_another h schema changes (get_or takers i d)) (get_or takers i d).added None
shared-twice h schema changes takers sorted i d within =
    ap (λ b. cond (b || is_held_by_another h schema changes (get_or takers i d)) (get_or takers i d).added None)
    (alike_tests ∙ beside-kept value_order value_order_total takers sorted i d within ∙ twice_tests)
  where
    alike_tests : is_beside are_of_one_value takers i d ≡ is_beside (λ x y. is_eq (value_order x y)) takers i d
    alike_tests = simp value_alike

    twice_tests : leb 2 (length (filter (λ y. is_eq (value_order (get_or takers i d) y)) takers))
        ≡ leb 2 (length (filter (are_of_one_value (get_or takers i d)) takers))
    twice_tests = simp value_alike

-- ---- the additions of one value

value_eq-comm : (v w : Value) → value_eq v w ≡ true → value_eq w v ≡ true
value_eq-comm v w is = subst (λ x. value_eq w x ≡ true) (sym (value_eq-true v w is)) (value_eq-refl w)

eqb-comm : (m n : ℕ) → eqb m n ≡ eqb n m
eqb-comm m n = grind arith

module _ (xs : List Triple) (rising : rise xs ≡ true) (added : list_all is_addition xs ≡ true) (i : ℕ) (d : Triple)
    (within : i < length xs) where
  abbrev x : Triple
  x = get_or xs i d

  to_other : 2 ≤ length (filter (are_of_one_value x) xs) → list_any (is_other_taker x) xs ≡ true
  to_other two =
      let at : PassesBeside (are_of_one_value x) xs i d = another_passes (are_of_one_value x) xs i d two in
      let y = get_or xs at.place d in
      let parts = and_parts (eqb x.a y.a) (value_eq x.v y.v) at.passes in
      list_any_at (is_other_taker x) xs at.place d at.within
      (and_from _ _ (and_from _ _ (and_from _ _ (all-at is_addition xs at.place d added at.within) (eqb-comm y.a x.a ∙ parts.0))
      (value_eq-comm x.v y.v parts.1))
      (differs (eqb x.e y.e) (eqb y.e x.e) (eqb-comm x.e y.e) (eqb x.a y.a) (value_eq x.v y.v) parts.0 parts.1
      (sym (triple_alike x y) ∙ apart xs i at.place d rising within at.within (λ same. at.other (sym same)))))
    where
      differs : (b c : Bool) → b ≡ c → (p q : Bool) → p ≡ true → q ≡ true → ((b && p) && q) ≡ false → not c ≡ true
      differs true c same true true p_is q_is none = absurd (true≢false none)
      differs false false same p q p_is q_is none = refl
      differs false true same p q p_is q_is none = absurd (true≢false (sym same))
      differs true c same true false p_is q_is none = absurd (true≢false (sym q_is))
      differs true c same false q p_is q_is none = absurd (true≢false (sym p_is))

  other_itself : (t : Triple) → is_other_taker t t ≡ true → ⊥
  other_itself t is =
      let last = (and_parts (is_addition t && eqb t.a t.a && value_eq t.v t.v) (not (eqb t.e t.e)) is).1 in
      true≢false (sym (sym (ap not (eq-eqb t.e t.e refl)) ∙ last))

  of_value : (y : Triple) → is_other_taker x y ≡ true → are_of_one_value x y ≡ true
  of_value y is =
      let outer = and_parts (is_addition y && eqb y.a x.a && value_eq y.v x.v) (not (eqb y.e x.e)) is in
      let parts = and_parts (is_addition y && eqb y.a x.a) (value_eq y.v x.v) outer.0 in
      and_from _ _ (eqb-comm x.a y.a ∙ (and_parts (is_addition y) (eqb y.a x.a) parts.0).1) (value_eq-comm y.v x.v parts.1)

  own_value : are_of_one_value x x ≡ true
  own_value = and_from _ _ (eq-eqb x.a x.a refl) (value_eq-refl x.v)

  from_other : list_any (is_other_taker x) xs ≡ true → 2 ≤ length (filter (are_of_one_value x) xs)
  from_other some =
      let at : IsFound (is_other_taker x) xs d = found (is_other_taker x) xs d some in
      elim (cases_order at.place i) [
        | inl same ↦ absurd (other_itself x (subst (λ j. is_other_taker x (get_or xs j d) ≡ true) same at.passes))
        | inr sides ↦ (elim sides [
          | inl before ↦ two_kept (are_of_one_value x) xs at.place i d before within (of_value (get_or xs at.place d) at.passes) own_value
          | inr behind ↦
              two_kept (are_of_one_value x) xs i at.place d behind at.within own_value (of_value (get_or xs at.place d) at.passes)
        ])
      ]

  pub twice-other : is_taken_twice xs x ≡ list_any (is_other_taker x) xs
  twice-other =
      same_tests _ _ (λ two. to_other (leb-true 2 (length (filter (are_of_one_value x) xs)) two))
      (λ some. le-leb 2 (length (filter (are_of_one_value x) xs)) (from_other some))

-- ---- in whatever order

twice-moved : (xs ys : List Triple) → IsPermutation xs ys → (t : Triple) → is_taken_twice ys t ≡ is_taken_twice xs t
twice-moved xs ys moved t =
    ap (leb 2) (length-filter (are_of_one_value t) ys ∙ sum_by-IsPermutation (λ x. cond (are_of_one_value t x) 1 0) xs ys moved
    ∙ sym (length-filter (are_of_one_value t) xs))

first_where-moved : (p : Triple → Bool) (place : Triple → Option ℕ) (xs ys : List Triple) → IsPermutation xs ys
    → first_where p place ys ≡ first_where p place xs
first_where-moved p place xs ys moved = same_places _ _ (λ n.
    reaches-first_where n p place ys
    ∙ sym (list_any-IsPermutation (λ t. p t && reaches n (place t)) xs ys moved)
    ∙ sym (reaches-first_where n p place xs))

-- ---- by the place of the first one

pub is_some-false : (o : Option ℕ) → is_some o ≡ false → o ≡ None
is_some-false None is = refl
is_some-false (Some n) is = absurd (true≢false is)

module _ (test : Triple → Bool) where
  none_from : (ts : List Triple) (n : ℕ) → position_from test n ts ≡ None → filter test ts ≡ []
  none_from [] n none = refl
  none_from (t ∷ ts) n none = go (test t) none (none_from ts (n + 1))
    where
      go : (b : Bool) → cond b (Some n) (position_from test (n + 1) ts) ≡ None
          → (position_from test (n + 1) ts ≡ None → filter test ts ≡ [])
          → cond b (t ∷ filter test ts) (filter test ts) ≡ []
      go true none rest = absurd (cc)
      go false none rest = rest none

  none_kept : (ts : List Triple) → position test ts ≡ None → filter test ts ≡ []
  none_kept ts none = none_from ts 0 (sym (position_from-zero test ts) ∙ none)

  kept_from : (ts : List Triple) (i : ℕ) (d : Triple) → i < length ts → test (get_or ts i d) ≡ true
      → ((k : ℕ) → k < i → test (get_or ts k d) ≡ false) → filter test ts ≡ get_or ts i d ∷ filter test (drop (suc i) ts)
  kept_from [] i d within passes before = absurd (omega (arith, within))
  kept_from (t ∷ ts) zero d within passes before = rw passes refl
  kept_from (t ∷ ts) (suc i) d within passes before =
      rw (before 0 (omega arith))
      (kept_from ts i d (omega (arith, within)) passes (λ k below. before (suc k) (omega (arith, below))))

  pub one_kept : (ts : List Triple) (i : ℕ) (d : Triple) → position test ts ≡ Some i → position test (drop (i + 1) ts) ≡ None
      → filter test ts ≡ get_or ts i d ∷ []
  one_kept ts i d first none =
      let at = position-Some test ts i d first in
      kept_from ts i d at.0 at.1 at.2
      ∙ ap (λ rest. get_or ts i d ∷ rest)
      (ap (λ n. filter test (drop n ts)) (next i) ∙ none_kept (drop (i + 1) ts) none)
    where
      next : (i : ℕ) → suc i ≡ i + 1
      next i = omega arith

module _ (schema : List Datom) (h : List Entry) (changes : List Datom) (ts : List Triple) (rising : rise ts ≡ true) where
  abbrev among : List Triple
  among = filter (is_taker schema) ts

  each_added : (ts : List Triple) → list_all is_addition (filter (is_taker schema) ts) ≡ true
  each_added [] = refl
  each_added (t ∷ ts) = go (is_taker schema t) refl (each_added ts)
    where
      go : (b : Bool) → is_taker schema t ≡ b → list_all is_addition (filter (is_taker schema) ts) ≡ true
          → list_all is_addition (cond b (t ∷ filter (is_taker schema) ts) (filter (is_taker schema) ts)) ≡ true
      go true is rest = and_from _ _ (and_parts (is_addition t) (is_unique schema t.a) is).0 rest
      go false is rest = rest

  not_taker : (t : Triple) → is_taker schema t ≡ true → (other : Triple) → is_taker schema other ≡ false → is_other_taker t other ≡ false
  not_taker t taker other none = go (is_addition other) (eqb other.a t.a) refl refl
    where
      go : (b c : Bool) → is_addition other ≡ b → eqb other.a t.a ≡ c
          → (((b && c) && value_eq other.v t.v) && not (eqb other.e t.e)) ≡ false
      go false c b_is c_is = refl
      go true false b_is c_is = refl
      go true true b_is c_is =
          absurd (true≢false (sym (and_from (is_addition other) (is_unique schema other.a) b_is
          (ap (is_unique schema) (eqb-true other.a t.a c_is) ∙ (and_parts (is_addition t) (is_unique schema t.a) taker).1)) ∙ none))

  pub shared-takers : (takers : List Triple) → IsPermutation among takers → first_among h schema changes takers ≡ first_shared schema h changes ts
  shared-takers takers moved =
      first_where-same (λ t. is_taken_twice takers t || is_held_by_another h schema changes t)
      (λ t. is_taken_twice among t || is_held_by_another h schema changes t) (λ t. t.added)
      (λ t. ap (λ b. b || is_held_by_another h schema changes t) (twice-moved among takers moved t)) takers
      ∙ first_where-moved (λ t. is_taken_twice among t || is_held_by_another h schema changes t) (λ t. t.added) among takers moved
      ∙ first_where-members (λ t. is_taken_twice among t || is_held_by_another h schema changes t)
      (λ t. is_taker schema t && is_shared h schema changes ts t) (λ t. t.added) (λ t. t.added) among member_same
      ∙ first_where-filter (λ t. is_taker schema t && is_shared h schema changes ts t) (is_taker schema) (λ t. t.added)
      (λ t none. and_left (is_taker schema t) (is_shared h schema changes ts t) none) ts
    where
      other_same : (t : Triple) → Contains among t → is_taker schema t ≡ true → is_taken_twice among t ≡ list_any (is_other_taker t) ts
      other_same t member taker =
          subst (λ x. is_taken_twice among x ≡ list_any (is_other_taker x) among) member.2
          (twice-other among (rise-filter (is_taker schema) ts rising) (each_added ts) member.0 t member.1)
          ∙ any-filter (is_other_taker t) (is_taker schema) (λ other none. not_taker t taker other none) ts

      passed : (t : Triple) → Contains among t → is_taker schema t ≡ true
      passed t member = All-contains (λ x. is_taker schema x ≡ true) among t (filter_passes (is_taker schema) ts) member

      with_taker : (b : Bool) → b ≡ true → (c : Bool) → c ≡ (b && c)
      with_taker true is c = refl
      with_taker false is c = absurd (true≢false (sym is))

      member_same : (t : Triple) → Contains among t
          → cond (is_taken_twice among t || is_held_by_another h schema changes t) t.added None
          ≡ cond (is_taker schema t && is_shared h schema changes ts t) t.added None
      member_same t member =
          ap (λ b. cond (b || is_held_by_another h schema changes t) t.added None) (other_same t member (passed t member))
          ∙ ap (λ b. cond b t.added None) (with_taker (is_taker schema t) (passed t member) (is_shared h schema changes ts t))

  -- where there is none, or one alone
  pub shared-none : position (is_taker schema) ts ≡ None → None ≡ first_shared schema h changes ts
  shared-none none =
      ap (first_among h schema changes) (sym (none_kept (is_taker schema) ts none)) ∙ shared-takers among (IsPermutation-refl among)

  pub shared-one : (i : ℕ) (d : Triple) → position (is_taker schema) ts ≡ Some i → position (is_taker schema) (drop (i + 1) ts) ≡ None
      → held_at h schema changes (get_or ts i d) ≡ first_shared schema h changes ts
  shared-one i d first none =
      alone (get_or ts i d)
      ∙ ap (first_among h schema changes) (sym (one_kept (is_taker schema) ts i d first none))
      ∙ shared-takers among (IsPermutation-refl among)
    where
      once : (t : Triple) (b : Bool) → leb 2 (length (cond b (t ∷ []) [])) ≡ false
      once t true = refl
      once t false = refl

      alone : (t : Triple) → held_at h schema changes t ≡ first_among h schema changes (t ∷ [])
      alone t =
          ap (λ b. cond (b || is_held_by_another h schema changes t) t.added None) (sym (once t (are_of_one_value t t)))
          ∙ sym (earlier-none (cond (is_taken_twice (t ∷ []) t || is_held_by_another h schema changes t) t.added None))

-- ---- behind references

get_or-any : {X : Type 0} (xs : List X) (k : ℕ) (d e : X) → k < length xs → get_or xs k d ≡ get_or xs k e
get_or-any [] k d e within = absurd (omega (arith, within))
get_or-any (x ∷ xs) zero d e within = refl
get_or-any (x ∷ xs) (suc k) d e within = get_or-any xs k d e (omega (arith, within))

pub sorted-behind : (lt : Triple → Triple → Bool) (refs : List (Bor Triple)) → IsSortedBy (λ x y. lt x.now y.now) refs
    → IsSortedBy lt (behind refs)
sorted-behind lt [] up k d low high = absurd (omega (arith, high))
sorted-behind lt (r ∷ rs) up k d low high =
    let inside : k + 1 < length (r ∷ rs) = omega (arith, high, length-behind (r ∷ rs)) in
    let here : k < length (r ∷ rs) = omega (arith, inside) in
    let first = behind-at (r ∷ rs) k (get_or (r ∷ rs) k r) d here (get_or-any (r ∷ rs) k r (get_or (r ∷ rs) k r) here) in
    let second =
    behind-at (r ∷ rs) (k + 1) (get_or (r ∷ rs) (k + 1) r) d inside (get_or-any (r ∷ rs) (k + 1) r (get_or (r ∷ rs) (k + 1) r) inside) in
    ap (λ x. lt x (get_or (behind (r ∷ rs)) k d)) second ∙ ap (lt (get_or (r ∷ rs) (k + 1) r).now) first ∙ up k r low inside
