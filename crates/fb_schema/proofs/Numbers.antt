-- Facts by their numbers, with one fact less or more.
use Rattle.std.proofs.Common.{◌≡◌, ℕ, zero, suc, ◌+◌, ◌<◌, Bool, true, false, cond, not, ◌&&◌, ◌||◌, List, [], ◌∷◌, ◌++◌, length, get_or}
use Rattle.std.proofs.Common.{take, eqb, refl, ap, sym, ◌∙◌, subst, Option, Some, None, arith, Vec, Global}
use Rattle.std.specs.Prelude.{filter, nat_eq}
use Rattle.std.specs.List.{list_any, find}
use Rattle.std.specs.Option.{option_map_or}
use Rattle.std.specs.Map.{keys_of, values_of}
use Rattle.std.specs.Ordering.{is_eq, nat_cmp, ordering_reverse}
use Rattle.std.specs.declared.cmp.Ordering.TheVariants.{Less, Greater}
use Rattle.std.proofs.lemmas.Bool.{true≢false, and_parts, and_from, or_parts, eqb-true, eq-eqb}
use Rattle.std.proofs.lemmas.Cmp.{nat_cmp_total}
use Rattle.fb_values.specs.declared.facts.Datom.{Datom}
use Rattle.fb_model.specs.Facts.{is_of, standing, value_eq}
use Rattle.fb_model.proofs.Triples.{is_of-true, is_of-same, value_eq-refl, not_followed, standing-append}
use Rattle.fb_model.proofs.Members.{are_of_other_triples, standing-apart, filter-standing}
use Rattle.shared_map.specs.Entries.{get, put, removed, IsBelowAll, IsRising}
use Rattle.shared_map.proofs.Lookups.{get-put}
use Rattle.shared_map.proofs.Rising.{rising-put, rising-removed}
use Rattle.fb_schema.specs.Numbered.{of_entity, numbers_at, is_number_of, AreBelow, IsKept}
use Rattle.fb_schema.proofs.Meeting.{is_eq-nat_cmp}
use Rattle.fb_schema.proofs.Described.{standing-twice}

-- the datom is of the triple of the fact
abbrev pub is_restated : Datom → Datom → Bool
is_restated d x = is_of x.e x.a x.v d

-- ---- numbers

less-apart : (m n : ℕ) → nat_cmp m n ≡ Less → is_eq (nat_cmp n m) ≡ false
less-apart m n less = ap is_eq (nat_cmp_total.antisymm n m ∙ ap ordering_reverse less)

-- ---- facts found by their numbers

-- each of the one list is found in the other
abbrev AreFound : List (ℕ × Datom) → List (ℕ × Datom) → Type 0
AreFound facts [] = Unit {0}
AreFound facts (x ∷ xs) = (get nat_cmp facts x.0 ≡ Some x.1) × AreFound facts xs

found-behind : (x : ℕ × Datom) (facts xs : List (ℕ × Datom)) → IsBelowAll nat_cmp x.0 xs → AreFound facts xs → AreFound (x ∷ facts) xs
found-behind x facts [] before found = tt
found-behind x facts (y ∷ ys) before found = (
  ap (λ b. cond b (Some x.1) (get nat_cmp facts y.0)) (less-apart x.0 y.0 before.0) ∙ found.0,
  found-behind x facts ys before.1 found.1,
)

all-found : (facts : List (ℕ × Datom)) → IsRising nat_cmp facts → AreFound facts facts
all-found [] rising = tt
all-found (x ∷ facts) rising = (
  ap (λ b. cond b (Some x.1) (get nat_cmp facts x.0)) (is_eq-nat_cmp x.0 x.0 ∙ eq-eqb x.0 x.0 refl),
  found-behind x facts facts rising.0 (all-found facts rising.1),
)

filter-found : (p : ℕ × Datom → Bool) (facts xs : List (ℕ × Datom)) → AreFound facts xs → AreFound facts (filter p xs)
filter-found p facts [] found = tt
filter-found p facts (x ∷ xs) found = go (p x) (filter-found p facts xs found.1)
  where
    go : (b : Bool) → AreFound facts (filter p xs) → AreFound facts (cond b (x ∷ filter p xs) (filter p xs))
    go true rest = (found.0, rest)
    go false rest = rest

pub own-found : (e : ℕ) (facts : List (ℕ × Datom)) → IsRising nat_cmp facts → AreFound facts (of_entity e facts)
own-found e facts rising = filter-found (λ x. nat_eq x.1.e e) facts facts (all-found facts rising)

-- the fact at a place
pub own-step : (facts xs : List (ℕ × Datom)) (i : ℕ) → AreFound facts xs → i < length (keys_of xs)
    → (x : Datom) × (get nat_cmp facts (get_or (keys_of xs) i 0) ≡ Some x) × (take (i + 1) (values_of xs) ≡ take i (values_of xs) ++ x ∷ [])
own-step facts [] i found within = absurd (omega arith)
own-step facts (x ∷ xs) zero found within = (x.1, found.0, refl)
own-step facts (x ∷ xs) (suc i) found within =
    let rest = own-step facts xs i found.1 (omega arith) in
    let e : suc i + 1 ≡ suc (i + 1) = omega arith in
    (rest.0, rest.1, rw e (ap (λ l. x.1 ∷ l) rest.2))

-- where no number of the entity's facts is the triple's, none of them is of it
pub none-found : (d : Datom) (facts xs : List (ℕ × Datom)) → AreFound facts xs → find (is_number_of d facts) (keys_of xs) ≡ None
    → list_any (is_restated d) (values_of xs) ≡ false
none-found d facts [] found none = refl
none-found d facts (x ∷ xs) found none = go (is_restated d x.1) refl (none-found d facts xs found.1)
  where
    here : is_number_of d facts x.0 ≡ is_restated d x.1
    here = ap (λ o. option_map_or (is_restated d) o false) found.0

    go : (b : Bool) → is_restated d x.1 ≡ b
        → (find (is_number_of d facts) (keys_of xs) ≡ None → list_any (is_restated d) (values_of xs) ≡ false)
        → (b || list_any (is_restated d) (values_of xs)) ≡ false
    go true is next = absurd (cc (sym (ap (λ b. cond b (Some x.0) (find (is_number_of d facts) (keys_of xs))) (here ∙ is)) ∙ none))
    go false is next = next (sym (ap (λ b. cond b (Some x.0) (find (is_number_of d facts) (keys_of xs))) (here ∙ is)) ∙ none)

find-passes : (p : ℕ → Bool) (ks : List ℕ) (n : ℕ) → find p ks ≡ Some n → p n ≡ true
find-passes p [] n found = absurd (cc found)
find-passes p (k ∷ ks) n found = go (p k) refl found (find-passes p ks n)
  where
    some : (x y : ℕ) → Some x ≡ Some y → x ≡ y
    some x y same = cc

    go : (b : Bool) → p k ≡ b → cond b (Some k) (find p ks) ≡ Some n → (find p ks ≡ Some n → p n ≡ true) → p n ≡ true
    go true is here next = ap p (sym (some k n here)) ∙ is
    go false is later next = next later

-- the fact that was found
pub record IsFact (d : Datom) (facts : List (ℕ × Datom)) (n : ℕ) : Type 0 where
  pub fact : Datom
  pub there : get nat_cmp facts n ≡ Some fact
  pub restated : is_restated d fact ≡ true

pub number-found : (d : Datom) (facts : List (ℕ × Datom)) (ks : List ℕ) (n : ℕ) → find (is_number_of d facts) ks ≡ Some n → IsFact d facts n
number-found d facts ks n found = go (get nat_cmp facts n) refl (find-passes (is_number_of d facts) ks n found)
  where
    go : (o : Option Datom) → get nat_cmp facts n ≡ o → option_map_or (is_restated d) o false ≡ true → IsFact d facts n
    go None is pass = absurd (true≢false (sym pass))
    go (Some x) is pass = record { fact = x; there = is; restated = pass }

pub same_length : (xs : List (ℕ × Datom)) → length (keys_of xs) ≡ length (values_of xs)
same_length [] = refl
same_length (x ∷ xs) = ap suc (same_length xs)

pub filter-values : (p : Datom → Bool) (facts : List (ℕ × Datom)) → values_of (filter (λ x. p x.1) facts) ≡ filter p (values_of facts)
filter-values p [] = refl
filter-values p (x ∷ facts) = go (p x.1) (filter-values p facts)
  where
    go : (b : Bool) → values_of (filter (λ y. p y.1) facts) ≡ filter p (values_of facts)
        → values_of (cond b (x ∷ filter (λ y. p y.1) facts) (filter (λ y. p y.1) facts))
        ≡ cond b (x.1 ∷ filter p (values_of facts)) (filter p (values_of facts))
    go true rest = ap (λ l. x.1 ∷ l) rest
    go false rest = rest

-- a test that one of the entity alone passes
pub any-own : (p : Datom → Bool) (e : ℕ) → ((x : Datom) → p x ≡ true → nat_eq x.e e ≡ true) → (ds : List Datom)
    → list_any p (filter (λ d. nat_eq d.e e) ds) ≡ list_any p ds
any-own p e implies [] = refl
any-own p e implies (x ∷ ds) = go (nat_eq x.e e) refl (p x) refl (any-own p e implies ds)
  where
    go : (b : Bool) → nat_eq x.e e ≡ b → (c : Bool) → p x ≡ c → list_any p (filter (λ d. nat_eq d.e e) ds) ≡ list_any p ds
        → list_any p (cond b (x ∷ filter (λ d. nat_eq d.e e) ds) (filter (λ d. nat_eq d.e e) ds)) ≡ (p x || list_any p ds)
    go true is c pass rest = ap (λ b. p x || b) rest
    go false is true pass rest = absurd (true≢false (sym (implies x pass) ∙ is))
    go false is false pass rest = rest ∙ ap (λ b. b || list_any p ds) (sym pass)

pub restated-own : (d x : Datom) → is_restated d x ≡ true → nat_eq x.e d.e ≡ true
restated-own d x is = eq-eqb x.e d.e (sym (is_of-true x.e x.a x.v d is).e_is)

-- ---- a fact less

restated-both : (d y z : Datom) → is_restated d y ≡ true → is_restated d z ≡ true → is_of y.e y.a y.v z ≡ true
restated-both d y z first second =
    let a = is_of-true y.e y.a y.v d first in
    let b = is_of-true z.e z.a z.v d second in
    and_from (nat_eq z.e y.e && nat_eq z.a y.a) (value_eq z.v y.v)
    (and_from (nat_eq z.e y.e) (nat_eq z.a y.a) (eq-eqb z.e y.e (sym b.e_is ∙ a.e_is)) (eq-eqb z.a y.a (sym b.a_is ∙ a.a_is)))
    (ap (λ v. value_eq v y.v) (sym b.v_is ∙ a.v_is) ∙ value_eq-refl y.v)

is_not : (b : Bool) → not b ≡ true → b ≡ false
is_not false e = refl
is_not true e = absurd (true≢false (sym e))

kept-restated : (d x : Datom) → not_followed (d ∷ []) x ≡ not (is_restated d x)
kept-restated d x = go (is_restated d x)
  where
    go : (b : Bool) → not (b || false) ≡ not b
    go true = refl
    go false = refl

-- all are kept behind the one that is restated
kept-all : (d y : Datom) (ds : List Datom) → is_restated d y ≡ true → list_any (is_of y.e y.a y.v) ds ≡ false
    → filter (not_followed (d ∷ [])) ds ≡ ds
kept-all d y [] is none = refl
kept-all d y (z ∷ ds) is none =
    let parts = or_parts (is_of y.e y.a y.v z) (list_any (is_of y.e y.a y.v) ds) none in
    ap (λ b. cond b (z ∷ filter (not_followed (d ∷ [])) ds) (filter (not_followed (d ∷ [])) ds))
    (kept-restated d z ∙ ap not (go (is_restated d z) refl parts.0))
    ∙ ap (λ l. z ∷ l) (kept-all d y ds is parts.1)
  where
    go : (b : Bool) → is_restated d z ≡ b → is_of y.e y.a y.v z ≡ false → b ≡ false
    go false same apart = refl
    go true same apart = absurd (true≢false (sym (restated-both d y z is same) ∙ apart))

any-found : (p : Datom → Bool) (n : ℕ) (facts : List (ℕ × Datom)) (x : Datom) → get nat_cmp facts n ≡ Some x → p x ≡ true
    → list_any p (values_of facts) ≡ true
any-found p n [] x found pass = absurd (cc found)
any-found p n (y ∷ facts) x found pass = go (is_eq (nat_cmp n y.0)) refl found (any-found p n facts x)
  where
    some : (v w : Datom) → Some v ≡ Some w → v ≡ w
    some v w same = cc

    go : (b : Bool) → is_eq (nat_cmp n y.0) ≡ b → cond b (Some y.1) (get nat_cmp facts n) ≡ Some x
        → (get nat_cmp facts n ≡ Some x → p x ≡ true → list_any p (values_of facts) ≡ true) → (p y.1 || list_any p (values_of facts)) ≡ true
    go true is here next = ap (λ b. b || list_any p (values_of facts)) (ap p (some y.1 x here) ∙ pass)
    go false is later next = or-right (p y.1) (list_any p (values_of facts)) (next later pass)
      where
        or-right : (b c : Bool) → c ≡ true → (b || c) ≡ true
        or-right true c is = refl
        or-right false c is = is

pub removed-others : (d : Datom) (n : ℕ) (facts : List (ℕ × Datom)) (x : Datom)
    → get nat_cmp facts n ≡ Some x → is_restated d x ≡ true → are_of_other_triples (values_of facts) ≡ true
    → values_of (removed nat_cmp n facts) ≡ filter (not_followed (d ∷ [])) (values_of facts)
removed-others d n [] x found is apart = absurd (cc found)
removed-others d n (y ∷ facts) x found is apart =
    let parts = and_parts (not (list_any (is_of y.1.e y.1.a y.1.v) (values_of facts))) (are_of_other_triples (values_of facts)) apart in
    go (is_eq (nat_cmp n y.0)) refl found (is_not _ parts.0) (λ later. removed-others d n facts x later is parts.1)
  where
    some : (v w : Datom) → Some v ≡ Some w → v ≡ w
    some v w same = cc

    go : (b : Bool) → is_eq (nat_cmp n y.0) ≡ b → cond b (Some y.1) (get nat_cmp facts n) ≡ Some x
        → list_any (is_of y.1.e y.1.a y.1.v) (values_of facts) ≡ false
        → (get nat_cmp facts n ≡ Some x → values_of (removed nat_cmp n facts) ≡ filter (not_followed (d ∷ [])) (values_of facts))
        → values_of (cond b facts (y ∷ removed nat_cmp n facts))
        ≡ cond (not_followed (d ∷ []) y.1) (y.1 ∷ filter (not_followed (d ∷ [])) (values_of facts))
        (filter (not_followed (d ∷ [])) (values_of facts))
    go true same here alone next =
        let restated : is_restated d y.1 ≡ true = ap (is_restated d) (some y.1 x here) ∙ is in
        sym (kept-all d y.1 (values_of facts) restated alone)
        ∙ ap (λ b. cond b (y.1 ∷ filter (not_followed (d ∷ [])) (values_of facts)) (filter (not_followed (d ∷ [])) (values_of facts)))
        (sym (kept-restated d y.1 ∙ ap not restated))
    go false other later alone next =
        ap (λ l. y.1 ∷ l) (next later)
        ∙ ap (λ b. cond b (y.1 ∷ filter (not_followed (d ∷ [])) (values_of facts)) (filter (not_followed (d ∷ [])) (values_of facts)))
        (sym (kept-restated d y.1 ∙ ap not (not_here (is_restated d y.1) refl)))
      where
        not_here : (c : Bool) → is_restated d y.1 ≡ c → c ≡ false
        not_here false restated = refl
        not_here true restated =
            absurd (true≢false (sym (any-found (is_of y.1.e y.1.a y.1.v) n facts x later (restated-both d y.1 x restated is)) ∙ alone))

-- ---- its number

none-behind : (n : ℕ) (p : ℕ × Datom → Bool) (facts : List (ℕ × Datom)) → IsBelowAll nat_cmp n facts
    → filter (λ m. not (eqb m n)) (keys_of (filter p facts)) ≡ keys_of (filter p facts)
none-behind n p [] before = refl
none-behind n p (y ∷ facts) before = go (p y) (none-behind n p facts before.1)
  where
    apart : eqb y.0 n ≡ false
    apart = sym (is_eq-nat_cmp y.0 n) ∙ less-apart n y.0 before.0

    go : (b : Bool) → filter (λ m. not (eqb m n)) (keys_of (filter p facts)) ≡ keys_of (filter p facts)
        → filter (λ m. not (eqb m n)) (keys_of (cond b (y ∷ filter p facts) (filter p facts)))
        ≡ keys_of (cond b (y ∷ filter p facts) (filter p facts))
    go true rest = rw apart (ap (λ l. y.0 ∷ l) rest)
    go false rest = rest

pub left-numbers : (n : ℕ) (p : ℕ × Datom → Bool) (facts : List (ℕ × Datom)) → IsRising nat_cmp facts
    → filter (λ m. not (eqb m n)) (keys_of (filter p facts)) ≡ keys_of (filter p (removed nat_cmp n facts))
left-numbers n p [] rising = refl
left-numbers n p (y ∷ facts) rising = go (is_eq (nat_cmp n y.0)) refl (left-numbers n p facts rising.1)
  where
    goal_of : Bool → Type 0
    goal_of b =
        filter (λ m. not (eqb m n)) (keys_of (filter p (y ∷ facts))) ≡ keys_of (filter p (cond b facts (y ∷ removed nat_cmp n facts)))

    here : (c : Bool) → eqb n y.0 ≡ true
        → filter (λ m. not (eqb m n)) (keys_of (cond c (y ∷ filter p facts) (filter p facts))) ≡ keys_of (filter p facts)
    here true same =
        let before : IsBelowAll nat_cmp n facts = subst (λ m. IsBelowAll nat_cmp m facts) (sym (eqb-true n y.0 same)) rising.0 in
        let dropped : eqb y.0 n ≡ true = eq-eqb y.0 n (sym (eqb-true n y.0 same)) in
        rw dropped (none-behind n p facts before)
    here false same =
        let before : IsBelowAll nat_cmp n facts = subst (λ m. IsBelowAll nat_cmp m facts) (sym (eqb-true n y.0 same)) rising.0 in
        none-behind n p facts before

    there : (c : Bool) → eqb y.0 n ≡ false
        → filter (λ m. not (eqb m n)) (keys_of (filter p facts)) ≡ keys_of (filter p (removed nat_cmp n facts))
        → filter (λ m. not (eqb m n)) (keys_of (cond c (y ∷ filter p facts) (filter p facts)))
        ≡ keys_of (cond c (y ∷ filter p (removed nat_cmp n facts)) (filter p (removed nat_cmp n facts)))
    there true other rest = rw other (ap (λ l. y.0 ∷ l) rest)
    there false other rest = rest

    go : (b : Bool) → is_eq (nat_cmp n y.0) ≡ b
        → filter (λ m. not (eqb m n)) (keys_of (filter p facts)) ≡ keys_of (filter p (removed nat_cmp n facts)) → goal_of b
    go true same rest = here (p y) (sym (is_eq-nat_cmp n y.0) ∙ same)
    go false other rest = there (p y) (sym (is_eq-nat_cmp y.0 n) ∙ swapped (is_eq (nat_cmp n y.0)) other) rest
      where
        swapped : (b : Bool) → is_eq (nat_cmp n y.0) ≡ false → is_eq (nat_cmp y.0 n) ≡ false
        swapped b is = is_eq-nat_cmp y.0 n ∙ turned (eqb y.0 n) refl
          where
            turned : (c : Bool) → eqb y.0 n ≡ c → c ≡ false
            turned false same = refl
            turned true same = absurd (true≢false (sym (eq-eqb n y.0 (sym (eqb-true y.0 n same))) ∙ sym (is_eq-nat_cmp n y.0) ∙ is))

-- those of another entity stay
pub other-numbers : (n : ℕ) (p : Datom → Bool) (facts : List (ℕ × Datom)) (x : Datom) → get nat_cmp facts n ≡ Some x → p x ≡ false
    → filter (λ y. p y.1) (removed nat_cmp n facts) ≡ filter (λ y. p y.1) facts
other-numbers n p [] x found fails = refl
other-numbers n p (y ∷ facts) x found fails = go (is_eq (nat_cmp n y.0)) found (λ later. other-numbers n p facts x later fails)
  where
    some : (v w : Datom) → Some v ≡ Some w → v ≡ w
    some v w same = cc

    go : (b : Bool) → cond b (Some y.1) (get nat_cmp facts n) ≡ Some x
        → (get nat_cmp facts n ≡ Some x → filter (λ z. p z.1) (removed nat_cmp n facts) ≡ filter (λ z. p z.1) facts)
        → filter (λ z. p z.1) (cond b facts (y ∷ removed nat_cmp n facts)) ≡ filter (λ z. p z.1) (y ∷ facts)
    go true here next = ap (λ b. cond b (y ∷ filter (λ z. p z.1) facts) (filter (λ z. p z.1) facts)) (sym (ap p (some y.1 x here) ∙ fails))
    go false later next = ap (λ l. cond (p y.1) (y ∷ l) l) (next later)

pub below-removed : (next n : ℕ) (facts : List (ℕ × Datom)) → AreBelow next facts → AreBelow next (removed nat_cmp n facts)
below-removed next n [] below = tt
below-removed next n (y ∷ facts) below = go (is_eq (nat_cmp n y.0)) (below-removed next n facts below.1)
  where
    go : (b : Bool) → AreBelow next (removed nat_cmp n facts) → AreBelow next (cond b facts (y ∷ removed nat_cmp n facts))
    go true rest = below.1
    go false rest = (below.0, rest)

-- ---- a fact more

pub put-last : (next : ℕ) (d : Datom) (facts : List (ℕ × Datom)) → AreBelow next facts
    → put nat_cmp (next, d) facts ≡ facts ++ (next, d) ∷ []
put-last next d [] below = refl
put-last next d (y ∷ facts) below =
    let greater : nat_cmp next y.0 ≡ Greater = grind (arith, below.0) in
    rw greater (ap (λ l. y ∷ l) (put-last next d facts below.1))

pub below-next : (next : ℕ) (d : Datom) (facts : List (ℕ × Datom)) → AreBelow next facts → AreBelow (next + 1) (facts ++ (next, d) ∷ [])
below-next next d [] below = (omega arith, tt)
below-next next d (y ∷ facts) below = (omega (arith, below.0), below-next next d facts below.1)

pub values-last : (next : ℕ) (d : Datom) (facts : List (ℕ × Datom)) → values_of (facts ++ (next, d) ∷ []) ≡ values_of facts ++ d ∷ []
values-last next d [] = refl
values-last next d (y ∷ facts) = ap (λ l. y.1 ∷ l) (values-last next d facts)

pub numbers-last : (e next : ℕ) (d : Datom) (facts : List (ℕ × Datom))
    → keys_of (of_entity e (facts ++ (next, d) ∷ []))
    ≡ cond (nat_eq d.e e) (keys_of (of_entity e facts) ++ next ∷ []) (keys_of (of_entity e facts))
numbers-last e next d [] = go (nat_eq d.e e)
  where
    go : (b : Bool) → keys_of (cond b ((next, d) ∷ []) []) ≡ cond b (next ∷ []) []
    go true = refl
    go false = refl
numbers-last e next d (y ∷ facts) = go (nat_eq y.1.e e) (nat_eq d.e e) (numbers-last e next d facts)
  where
    go : (b c : Bool)
        → keys_of (of_entity e (facts ++ (next, d) ∷ [])) ≡ cond c (keys_of (of_entity e facts) ++ next ∷ []) (keys_of (of_entity e facts))
        → keys_of (cond b (y ∷ of_entity e (facts ++ (next, d) ∷ [])) (of_entity e (facts ++ (next, d) ∷ [])))
        ≡ cond c (keys_of (cond b (y ∷ of_entity e facts) (of_entity e facts)) ++ next ∷ [])
        (keys_of (cond b (y ∷ of_entity e facts) (of_entity e facts)))
    go true true rest = ap (λ l. y.0 ∷ l) rest
    go true false rest = ap (λ l. y.0 ∷ l) rest
    go false c rest = rest

-- ---- the table by entity

pub numbers_at-put : (k : ℕ) (own : Vec ℕ Global) (numbers : List (ℕ × Vec ℕ Global)) (e : ℕ)
    → numbers_at (put nat_cmp (k, own) numbers) e ≡ cond (nat_eq k e) own.items (numbers_at numbers e)
numbers_at-put k own numbers e =
    ap (λ o. option_map_or (λ (v : Vec ℕ Global). v.items) o []) (get-put nat_cmp_total (k, own) numbers e)
    ∙ go (is_eq (nat_cmp k e))
    ∙ ap (λ b. cond b own.items (numbers_at numbers e)) (is_eq-nat_cmp k e)
  where
    go : (b : Bool)
        → option_map_or (λ (v : Vec ℕ Global). v.items) (cond b (Some own) (get nat_cmp numbers e)) []
        ≡ cond b own.items (numbers_at numbers e)
    go true = refl
    go false = refl

-- where what stands was told apart by its entity
pub numbers-removed : (d : Datom) (n : ℕ) (own : Vec ℕ Global) (facts : List (ℕ × Datom)) (numbers : List (ℕ × Vec ℕ Global)) (x : Datom)
    → IsRising nat_cmp facts → get nat_cmp facts n ≡ Some x → is_restated d x ≡ true
    → own.items ≡ filter (λ m. not (eqb m n)) (numbers_at numbers d.e) → ((e : ℕ) → numbers_at numbers e ≡ keys_of (of_entity e facts))
    → (e : ℕ) → numbers_at (put nat_cmp (d.e, own) numbers) e ≡ keys_of (of_entity e (removed nat_cmp n facts))
numbers-removed d n own facts numbers x rising found is left kept e = numbers_at-put d.e own numbers e ∙ go (nat_eq d.e e) refl
  where
    go : (b : Bool) → nat_eq d.e e ≡ b → cond b own.items (numbers_at numbers e) ≡ keys_of (of_entity e (removed nat_cmp n facts))
    go true same =
        left ∙ ap (filter (λ m. not (eqb m n))) (kept d.e ∙ ap (λ k. keys_of (of_entity k facts)) (eqb-true d.e e same))
        ∙ left-numbers n (λ y. nat_eq y.1.e e) facts rising
    go false other =
        let fails : nat_eq x.e e ≡ false = ap (λ k. nat_eq k e) (sym (is_of-true x.e x.a x.v d is).e_is) ∙ other in
        kept e ∙ ap keys_of (sym (other-numbers n (λ y. nat_eq y.e e) facts x found fails))

pub numbers-more : (d : Datom) (next : ℕ) (own : Vec ℕ Global) (facts : List (ℕ × Datom)) (numbers : List (ℕ × Vec ℕ Global))
    → own.items ≡ numbers_at numbers d.e ++ next ∷ [] → ((e : ℕ) → numbers_at numbers e ≡ keys_of (of_entity e facts))
    → (e : ℕ) → numbers_at (put nat_cmp (d.e, own) numbers) e ≡ keys_of (of_entity e (facts ++ (next, d) ∷ []))
numbers-more d next own facts numbers all kept e =
    numbers_at-put d.e own numbers e ∙ go (nat_eq d.e e) refl ∙ sym (numbers-last e next d facts)
  where
    go : (b : Bool) → nat_eq d.e e ≡ b
        → cond b own.items (numbers_at numbers e) ≡ cond b (keys_of (of_entity e facts) ++ next ∷ []) (keys_of (of_entity e facts))
    go true same = all ∙ ap (λ l. l ++ next ∷ []) (kept d.e ∙ ap (λ k. keys_of (of_entity k facts)) (eqb-true d.e e same))
    go false other = kept e

-- ---- what stands

is_followed_alike : (d x other : Datom) → is_of x.e x.a x.v other ≡ true → not_followed (d ∷ []) x ≡ not_followed (d ∷ []) other
is_followed_alike d x other same = ap (λ b. not (b || false)) (sym (is_of-same x.e x.a x.v other d same))

-- those of other triples
pub others-stand : (d : Datom) (ds : List Datom) → standing ds ≡ ds
    → standing (filter (not_followed (d ∷ [])) ds) ≡ filter (not_followed (d ∷ [])) ds
others-stand d ds stands =
    sym (filter-standing (not_followed (d ∷ [])) (is_followed_alike d) ds) ∙ ap (filter (not_followed (d ∷ []))) stands

pub kept-none : (d : Datom) (ds : List Datom) → list_any (is_restated d) ds ≡ false → filter (not_followed (d ∷ [])) ds ≡ ds
kept-none d [] none = refl
kept-none d (x ∷ ds) none =
    let parts = or_parts (is_restated d x) (list_any (is_restated d) ds) none in
    ap (λ b. cond b (x ∷ filter (not_followed (d ∷ [])) ds) (filter (not_followed (d ∷ [])) ds)) (kept-restated d x ∙ ap not parts.0)
    ∙ ap (λ l. x ∷ l) (kept-none d ds parts.1)

append-nil : (ds : List Datom) → ds ++ [] ≡ ds
append-nil [] = refl
append-nil (d ∷ ds) = ap (λ l. d ∷ l) (append-nil ds)

pub standing-idem : (ds : List Datom) → standing (standing ds) ≡ standing ds
standing-idem ds = ap standing (sym (append-nil (standing ds))) ∙ standing-twice ds [] ∙ ap standing (append-nil ds)

one : (d : Datom) (b : Bool) → d.added ≡ b → standing (d ∷ []) ≡ cond b (d ∷ []) []
one d true is = ap (λ b. cond (b && true) (d ∷ []) []) is
one d false is = ap (λ b. cond (b && true) (d ∷ []) []) is

pub said-one : (d : Datom) (ds : List Datom) (b : Bool) → d.added ≡ b → standing ds ≡ ds
    → standing (ds ++ d ∷ []) ≡ filter (not_followed (d ∷ [])) ds ++ cond b (d ∷ []) []
said-one d ds b is stands =
    standing-append ds (d ∷ [])
    ∙ ap (λ l. filter (not_followed (d ∷ [])) l ++ standing (d ∷ [])) stands
    ∙ ap (λ l. filter (not_followed (d ∷ [])) ds ++ l) (one d b is)

pub said-retracted : (d : Datom) (ds : List Datom) → d.added ≡ false → standing ds ≡ ds
    → standing (ds ++ d ∷ []) ≡ filter (not_followed (d ∷ [])) ds
said-retracted d ds is stands = said-one d ds false is stands ∙ append-nil (filter (not_followed (d ∷ [])) ds)

-- ---- what is kept

pub kept-removed : (d : Datom) (next n : ℕ) (own : Vec ℕ Global) (facts : List (ℕ × Datom)) (numbers : List (ℕ × Vec ℕ Global))
    → IsKept next facts numbers → IsFact d facts n
    → own.items ≡ filter (λ m. not (eqb m n)) (numbers_at numbers d.e)
    → IsKept next (removed nat_cmp n facts) (put nat_cmp (d.e, own) numbers)
kept-removed d next n own facts numbers kept found left =
    let apart = ap are_of_other_triples (sym kept.stands) ∙ standing-apart (values_of facts) in
    let others = removed-others d n facts found.fact found.there found.restated apart in
    record {
      own = numbers-removed d n own facts numbers found.fact kept.rising found.there found.restated left kept.own;
      below = below-removed next n facts kept.below;
      rising = rising-removed nat_cmp_total n facts kept.rising;
      stands = ap standing others ∙ others-stand d (values_of facts) kept.stands ∙ sym others;
    }

pub values-removed : (d : Datom) (next n : ℕ) (facts : List (ℕ × Datom)) (numbers : List (ℕ × Vec ℕ Global))
    → IsKept next facts numbers → IsFact d facts n
    → values_of (removed nat_cmp n facts) ≡ filter (not_followed (d ∷ [])) (values_of facts)
values-removed d next n facts numbers kept found =
    removed-others d n facts found.fact found.there found.restated
    (ap are_of_other_triples (sym kept.stands) ∙ standing-apart (values_of facts))

pub none-restated : (d : Datom) (next : ℕ) (facts : List (ℕ × Datom)) (numbers : List (ℕ × Vec ℕ Global))
    → IsKept next facts numbers → find (is_number_of d facts) (numbers_at numbers d.e) ≡ None
    → filter (not_followed (d ∷ [])) (values_of facts) ≡ values_of facts
none-restated d next facts numbers kept none =
    kept-none d (values_of facts)
    (sym (any-own (is_restated d) d.e (restated-own d) (values_of facts))
    ∙ ap (list_any (is_restated d)) (sym (filter-values (λ x. nat_eq x.e d.e) facts))
    ∙ none-found d facts (of_entity d.e facts) (own-found d.e facts kept.rising)
    (ap (find (is_number_of d facts)) (sym (kept.own d.e)) ∙ none))

pub values-more : (d : Datom) (next : ℕ) (facts : List (ℕ × Datom)) → AreBelow next facts
    → values_of (put nat_cmp (next, d) facts) ≡ values_of facts ++ d ∷ []
values-more d next facts below = ap values_of (put-last next d facts below) ∙ values-last next d facts

pub kept-more : (d : Datom) (next : ℕ) (own : Vec ℕ Global) (facts : List (ℕ × Datom)) (numbers : List (ℕ × Vec ℕ Global))
    → IsKept next facts numbers
    → own.items ≡ numbers_at numbers d.e ++ next ∷ [] → standing (values_of facts ++ d ∷ []) ≡ values_of facts ++ d ∷ []
    → IsKept (next + 1) (put nat_cmp (next, d) facts) (put nat_cmp (d.e, own) numbers)
kept-more d next own facts numbers kept all stands =
    let values = values-more d next facts kept.below in
    record {
      own = λ e.
          numbers-more d next own facts numbers all kept.own e ∙ ap (λ l. keys_of (of_entity e l)) (sym (put-last next d facts kept.below));
      below = subst (AreBelow (next + 1)) (sym (put-last next d facts kept.below)) (below-next next d facts kept.below);
      rising = rising-put nat_cmp_total (next, d) facts kept.rising;
      stands = ap standing values ∙ stands ∙ sym values;
    }
