-- Where the changes of an entity lie.
use Rattle.std.proofs.Common.{◌≡◌, ℕ, zero, suc, ◌+◌, ◌<◌, ◌≤◌, Bool, true, false, cond, List, [], ◌∷◌, length, take, drop, get_or, refl}
use Rattle.std.proofs.Common.{ap, sym, ◌∙◌, arith, eqb, ltb, leb, inl, inr}
use Rattle.std.specs.Prelude.{filter}
use Rattle.std.specs.List.{list_all}
use Rattle.std.specs.Ordering.{is_lt, ordering_then, nat_cmp}
use Rattle.std.specs.declared.cmp.Ordering.{Ordering}
use Rattle.std.proofs.lemmas.Bool.{true≢false, and_parts, and_from, eqb-true, eq-eqb, ne_eqb, leb-true, le-leb, ltb-true, ltb-false}
use Rattle.std.proofs.lemmas.Bool.{cases_order}
use Rattle.fb_values.specs.declared.facts.Datom.{Datom}
use Rattle.fb_values.specs.declared.indexes.Order.TheVariants.{Eavt, Aevt}
use Rattle.fb_values.specs.declared.facts.Value.TheVariants.{Ref}
use Rattle.std.specs.Cmp.{tied_itself, nat_cmp_total}
use Rattle.std.specs.Cmp.Lexicographic.{slice_cmp}
use Rattle.fb_values.specs.Orders.{key_cmp, value_cmp}
use Rattle.fb_values.specs.Rising.{rises}
use Rattle.fb_model.proofs.Members.{member_passes, all_members}
use Rattle.fb_model.proofs.InOrder.{first_is_least}
use Rattle.fb_facts.specs.FactLists.{is_of_entity}
use Rattle.tx_after.specs.Places.{place_of, front_of, entities_rise}
use Rattle.tx_after.proofs.Orders.{rest_rises}

first_decides : (m n : ℕ) (r : Ordering) → is_lt (ordering_then (nat_cmp m n) r) ≡ true → leb m n ≡ true
first_decides m n r less = go (ltb m n) refl (eqb m n) refl
  where
    go : (b : Bool) → ltb m n ≡ b → (c : Bool) → eqb m n ≡ c → leb m n ≡ true
    go true is c also = le-leb m n (omega (arith, ltb-true m n is))
    go false is true also = le-leb m n (omega (arith, eqb-true m n also))
    go false is false also = absurd (true≢false (sym less ∙ rw (is, also) refl))

pub entities-rise : (ds : List Datom) → rises Eavt ds ≡ true → entities_rise ds ≡ true
entities-rise [] rising = refl
entities-rise (d ∷ ds) rising =
    and_from _ _ (all_members (λ y. leb d.e y.e) ds (λ y member. first_decides d.e y.e _ (first_is_least Eavt d ds y rising member)))
    (entities-rise ds (rest_rises Eavt d ds rising))

pub place_of-le-length : (e : ℕ) (ds : List Datom) → place_of e ds ≤ length ds
place_of-le-length e [] = omega arith
place_of-le-length e (d ∷ ds) =
    elim (ltb d.e e) as (λ b. cond b (1 + place_of e ds) 0 ≤ suc (length ds)) [
      | true ↦ omega (arith, place_of-le-length e ds)
      | false ↦ omega arith
    ]

all_at : (p : Datom → Bool) (ds : List Datom) (i : ℕ) (x : Datom) → i < length ds → list_all p ds ≡ true → p (get_or ds i x) ≡ true
all_at p [] i x within every = absurd (omega arith)
all_at p (d ∷ ds) zero x within every = (and_parts _ _ every).0
all_at p (d ∷ ds) (suc i) x within every = all_at p ds i x (omega arith) (and_parts _ _ every).1

-- a datom of a lower entity stands before the place
pub place_behind : (e : ℕ) (ds : List Datom) (i : ℕ) (x : Datom) → entities_rise ds ≡ true → i < length ds → (get_or ds i x).e < e
    → i < place_of e ds
place_behind e [] i x rising within below = absurd (omega arith)
place_behind e (d ∷ ds) zero x rising within below = go (ltb d.e e) refl
  where
    go : (b : Bool) → ltb d.e e ≡ b → 0 < cond b (1 + place_of e ds) 0
    go true is = omega arith
    go false is = absurd (omega (arith, ltb-false d.e e is, below))
place_behind e (d ∷ ds) (suc i) x rising within below =
    go (ltb d.e e) refl (place_behind e ds i x (and_parts _ _ rising).1 (omega arith) below)
  where
    go : (b : Bool) → ltb d.e e ≡ b → i < place_of e ds → suc i < cond b (1 + place_of e ds) 0
    go true is rest = omega (arith, rest)
    go false is rest = absurd (omega (
      arith,
      ltb-false d.e e is,
      leb-true d.e (get_or ds i x).e (all_at (λ y. leb d.e y.e) ds i x (omega arith) (and_parts _ _ rising).0),
      below,
    ))

-- and one of no lower entity does not
pub place_upto : (e : ℕ) (ds : List Datom) (i : ℕ) (x : Datom) → i < length ds → e ≤ (get_or ds i x).e → place_of e ds ≤ i
place_upto e [] i x within above = absurd (omega arith)
place_upto e (d ∷ ds) zero x within above = go (ltb d.e e) refl
  where
    go : (b : Bool) → ltb d.e e ≡ b → cond b (1 + place_of e ds) 0 ≤ 0
    go true is = absurd (omega (arith, ltb-true d.e e is, above))
    go false is = omega arith
place_upto e (d ∷ ds) (suc i) x within above =
    elim (ltb d.e e) as (λ b. cond b (1 + place_of e ds) 0 ≤ suc i) [
      | true ↦ omega (arith, place_upto e ds i x (omega arith) above)
      | false ↦ omega arith
    ]

-- ---- the front

pub front_more : (e : ℕ) (ds : List Datom) (i : ℕ) (x : Datom) → i < length ds → (get_or ds i x).e ≡ e → i ≤ front_of e ds
    → i + 1 ≤ front_of e ds
front_more e [] i x within is upto = absurd (omega arith)
front_more e (d ∷ ds) zero x within is upto = go (eqb d.e e) refl
  where
    go : (b : Bool) → eqb d.e e ≡ b → 0 + 1 ≤ cond b (1 + front_of e ds) 0
    go true same = omega arith
    go false other = absurd (true≢false (sym (eq-eqb d.e e is) ∙ other))
front_more e (d ∷ ds) (suc i) x within is upto = go (eqb d.e e) (λ below. front_more e ds i x (omega arith) is below) upto
  where
    go : (b : Bool) → (i ≤ front_of e ds → i + 1 ≤ front_of e ds) → suc i ≤ cond b (1 + front_of e ds) 0
        → suc i + 1 ≤ cond b (1 + front_of e ds) 0
    go true next upto = omega (arith, next (omega arith))
    go false next upto = absurd (omega arith)

pub front_end : (e : ℕ) (ds : List Datom) (i : ℕ) (x : Datom) → i < length ds → ((get_or ds i x).e ≡ e → ⊥) → front_of e ds ≤ i
front_end e [] i x within other = absurd (omega arith)
front_end e (d ∷ ds) zero x within other = ap_le (eqb d.e e) (ne_eqb d.e e other)
  where
    ap_le : (b : Bool) → b ≡ false → cond b (1 + front_of e ds) 0 ≤ 0
    ap_le false is = omega arith
    ap_le true is = absurd (true≢false is)
front_end e (d ∷ ds) (suc i) x within other =
    elim (eqb d.e e) as (λ b. cond b (1 + front_of e ds) 0 ≤ suc i) [
      | true ↦ omega (arith, front_end e ds i x (omega arith) other)
      | false ↦ omega arith
    ]

pub front_of-le-length : (e : ℕ) (ds : List Datom) → front_of e ds ≤ length ds
front_of-le-length e [] = omega arith
front_of-le-length e (d ∷ ds) =
    elim (eqb d.e e) as (λ b. cond b (1 + front_of e ds) 0 ≤ suc (length ds)) [
      | true ↦ omega (arith, front_of-le-length e ds)
      | false ↦ omega arith
    ]

-- ---- the part of the entity

none_above : (e : ℕ) (d : Datom) (ds : List Datom) → e < d.e → list_all (λ y. leb d.e y.e) ds ≡ true → filter (is_of_entity e) ds ≡ []
none_above e d [] above every = refl
none_above e d (y ∷ ds) above every =
    let parts = and_parts (leb d.e y.e) (list_all (λ z. leb d.e z.e) ds) every in
    ap (λ b. cond b (y ∷ filter (is_of_entity e) ds) (filter (is_of_entity e) ds))
    (ne_eqb y.e e (λ same. omega (arith, leb-true d.e y.e parts.0, same)))
    ∙ none_above e d ds above parts.1

front-filter : (e : ℕ) (ds : List Datom) → entities_rise ds ≡ true → list_all (λ y. leb e y.e) ds ≡ true
    → take (front_of e ds) ds ≡ filter (is_of_entity e) ds
front-filter e [] rising from = refl
front-filter e (d ∷ ds) rising from = go (eqb d.e e) refl (front-filter e ds (and_parts _ _ rising).1 (and_parts _ _ from).1)
  where
    go : (b : Bool) → eqb d.e e ≡ b → take (front_of e ds) ds ≡ filter (is_of_entity e) ds
        → take (cond b (1 + front_of e ds) 0) (d ∷ ds) ≡ cond b (d ∷ filter (is_of_entity e) ds) (filter (is_of_entity e) ds)
    go true is rest =
        let one : 1 + front_of e ds ≡ suc (front_of e ds) = omega arith in
        ap (λ n. take n (d ∷ ds)) one ∙ ap (λ l. d ∷ l) rest
    go false is rest = sym (none_above e d ds (above is) (and_parts _ _ rising).0)
      where
        above : eqb d.e e ≡ false → e < d.e
        above other = elim (cases_order d.e e) [
          | inl same ↦ absurd (true≢false (sym (eq-eqb d.e e same) ∙ other))
          | inr apart ↦ elim apart [ inl lower ↦ absurd (omega (arith, leb-true e d.e (and_parts _ _ from).0)) | inr higher ↦ higher ]
        ]

-- from the place on all are of this entity or a higher one
pub place-from : (e : ℕ) (ds : List Datom) → entities_rise ds ≡ true → list_all (λ y. leb e y.e) (drop (place_of e ds) ds) ≡ true
place-from e [] rising = refl
place-from e (d ∷ ds) rising = go (ltb d.e e) refl (place-from e ds (and_parts _ _ rising).1)
  where
    go : (b : Bool) → ltb d.e e ≡ b → list_all (λ y. leb e y.e) (drop (place_of e ds) ds) ≡ true
        → list_all (λ y. leb e y.e) (drop (cond b (1 + place_of e ds) 0) (d ∷ ds)) ≡ true
    go true is rest =
        let one : 1 + place_of e ds ≡ suc (place_of e ds) = omega arith in
        ap (λ n. list_all (λ y. leb e y.e) (drop n (d ∷ ds))) one ∙ rest
    go false is rest =
        and_from _ _ (le-leb e d.e (ltb-false d.e e is))
        (all_members (λ y. leb e y.e) ds (λ y member. le-leb e y.e
        (omega (arith, ltb-false d.e e is, leb-true d.e y.e (member_passes (λ y. leb d.e y.e) ds y (and_parts _ _ rising).0 member)))))

-- and none before it is of this entity
pub place-filter : (e : ℕ) (ds : List Datom) → filter (is_of_entity e) (drop (place_of e ds) ds) ≡ filter (is_of_entity e) ds
place-filter e [] = refl
place-filter e (d ∷ ds) = go (ltb d.e e) refl (place-filter e ds)
  where
    go : (b : Bool) → ltb d.e e ≡ b → filter (is_of_entity e) (drop (place_of e ds) ds) ≡ filter (is_of_entity e) ds
        → filter (is_of_entity e) (drop (cond b (1 + place_of e ds) 0) (d ∷ ds)) ≡ filter (is_of_entity e) (d ∷ ds)
    go true is rest =
        let one : 1 + place_of e ds ≡ suc (place_of e ds) = omega arith in
        ap (λ n. filter (is_of_entity e) (drop n (d ∷ ds))) one
        ∙ rest
        ∙ sym (ap (λ b. cond b (d ∷ filter (is_of_entity e) ds) (filter (is_of_entity e) ds))
        (ne_eqb d.e e (λ same. omega (arith, ltb-true d.e e is, same))))
    go false is rest = refl

rise-drop : (n : ℕ) (ds : List Datom) → entities_rise ds ≡ true → entities_rise (drop n ds) ≡ true
rise-drop zero ds rising = rising
rise-drop (suc n) [] rising = refl
rise-drop (suc n) (d ∷ ds) rising = rise-drop n ds (and_parts _ _ rising).1

pub part-filter : (e : ℕ) (ds : List Datom) → rises Eavt ds ≡ true
    → take (front_of e (drop (place_of e ds) ds)) (drop (place_of e ds) ds) ≡ filter (is_of_entity e) ds
part-filter e ds rising =
    let entities = entities-rise ds rising in
    front-filter e (drop (place_of e ds) ds) (rise-drop (place_of e ds) ds entities) (place-from e ds entities)
    ∙ place-filter e ds

-- under one attribute the entity decides first in AEVT too
pub entity_first : (x y : Datom) → x.a ≡ y.a → is_lt (key_cmp Aevt x y) ≡ true → leb x.e y.e ≡ true
entity_first x y same less =
    first_decides x.e y.e _ (sym
    (ap (λ r. is_lt (ordering_then r (ordering_then (nat_cmp x.e y.e) (slice_cmp value_cmp (x.v ∷ Ref x.t ∷ []) (y.v ∷ Ref y.t ∷ [])))))
    (ap (λ n. nat_cmp n y.a) same ∙ tied_itself nat_cmp_total y.a)) ∙ less)
