-- In the index by entity the datoms of an attribute stand together, so that one name for each attribute is enough.
use Rattle.std.proofs.Common.{◌≡◌, ◌∙◌, ℕ, suc, ◌+◌, length, drop, get_or, ◌<◌, ◌≤◌, inl, inr, true, List, [], ◌∷◌, refl, sym, ap}
use Rattle.std.proofs.Common.{subst, Option, Some, None, eqb, arith}
use Rattle.std.specs.Prelude.{filter, filter_map, Contains, ◌↔◌, option_map, not}
use Rattle.std.specs.List.{All, cons_option}
use Rattle.std.specs.Ordering.{is_eq, is_gt, nat_cmp, ordering_then}
use Rattle.std.specs.declared.cmp.Ordering.{Ordering}
use Rattle.std.specs.declared.cmp.Ordering.TheVariants.{Less, Equal, Greater}
use Rattle.std.proofs.lemmas.Bool.{true≢false, eqb-true, cases_lt}
use Rattle.std.proofs.lemmas.List.{drop_more}
use Rattle.std.proofs.lemmas.Bool.Decides.{nat_tests}
use Rattle.fb_values.specs.declared.facts.Datom.{Datom}
use Rattle.fb_values.specs.declared.indexes.Order.TheVariants.{Eavt}
use Rattle.fb_values.specs.Orders.{key_cmp, value_cmp}
use Rattle.fb_values.specs.Rising.{IsRising}
use Rattle.fb_values.proofs.Rising.{rising_from}
use Rattle.fb_model.specs.Facts.{facts as facts_of}
use Rattle.fb_model.specs.Schema.{attribute_of}
use Rattle.fb_model.proofs.Members.{here, there, cases_of, none_of, kept, keep}
use Rattle.live_index.proofs.Members.{contains-cons, contains_head, contains_tail, contains_none}
use Rattle.live_index.proofs.Growing.{rising-filter}
use Rattle.live_index.proofs.Together.{before_member}
use Rattle.fb_scan.specs.Attributes.{HasAttribute}
use Rattle.fb_db.specs.declared.db.Db.{Db}
use Rattle.fb_db.specs.Seen.{window_of}
use Rattle.pull_model.specs.Found as model
use Rattle.pull_model.specs.Found.{put_name, names_in_order}
use Rattle.pull_model.proofs.Names.{put_twice}
use Rattle.fb_pull.specs.Attributes.{Rise, name_of, names_among, put}
use Rattle.fb_pull.specs.Views.{Sees}

-- ---- names

pub put_again : (name : Option (List ℕ)) (names : List (List ℕ)) → put name (put name names) ≡ put name names
put_again None names = refl
put_again (Some name) names = put_twice name names

pub put_first : (name : ℕ → Option (List ℕ)) (a : ℕ) (rest : List ℕ)
    → names_in_order (filter_map name (a ∷ rest)) ≡ put (name a) (names_in_order (filter_map name rest))
put_first name a rest = go (name a)
  where
    go : (o : Option (List ℕ)) → names_in_order (cons_option o (filter_map name rest)) ≡ put o (names_in_order (filter_map name rest))
    go None = refl
    go (Some n) = refl

pub put_datom : (name : ℕ → Option (List ℕ)) (x : Datom) (ds : List Datom)
    → names_in_order (filter_map (λ (d : Datom). name d.a) (x ∷ ds)) ≡ put (name x.a)
    (names_in_order (filter_map (λ (d : Datom). name d.a) ds))
put_datom name x ds = go (name x.a)
  where
    go : (o : Option (List ℕ)) → names_in_order (cons_option o (filter_map (λ (d : Datom). name d.a) ds)) ≡ put o
        (names_in_order (filter_map (λ (d : Datom). name d.a) ds))
    go None = refl
    go (Some n) = refl

pub first_of_names : (schema ds : List Datom) (i : ℕ) (d : Datom) → i < length ds → d ≡ get_or ds i d
    → names_among schema (drop i ds) ≡ put (name_of schema d.a) (names_among schema (drop (i + 1) ds))
first_of_names schema ds i d below is =
    ap (names_among schema) (drop_more ds i d below ∙ ap (λ (x : Datom). x ∷ drop (i + 1) ds) (sym is))
    ∙ put_datom (name_of schema) d (drop (i + 1) ds)

-- a datom of the next one's attribute brings no name
pub no_name_more : (schema ds : List Datom) (i : ℕ) (x y : Datom) → i + 1 < length ds → x ≡ get_or ds i x → y ≡ get_or ds (i + 1) y
    → y.a ≡ x.a → names_among schema (drop (i + 1) ds) ≡ names_among schema (drop i ds)
no_name_more schema ds i x y below x_is y_is same =
    let rest = names_among schema (drop (i + 1 + 1) ds) in
    let second = first_of_names schema ds (i + 1) y below y_is in
    second
    ∙ sym (put_again (name_of schema y.a) rest)
    ∙ ap (put (name_of schema y.a)) (sym second)
    ∙ ap (λ a. put (name_of schema a) (names_among schema (drop (i + 1) ds))) same
    ∙ sym (first_of_names schema ds i x (omega (arith, below)) x_is)

-- ---- runs

-- no datom has a lesser attribute than one before it
abbrev Climbs : List Datom → Type 0
Climbs [] = Unit {0}
Climbs (x ∷ ds) = ((d : Datom) → Contains ds d → x.a ≤ d.a) × Climbs ds

-- a datom of the list has the attribute
abbrev Some_has : List Datom → ℕ → Type 0
Some_has ds a = (d : Datom) × Contains ds d × (d.a ≡ a)

above_all : (P : ℕ → Type 0) (list : List ℕ) (n : ℕ) → All P list → Contains list n → P n
above_all P [] n all member = absurd (contains_none n member)
above_all P (m ∷ list) n all member =
    elim (contains-cons m list n member) [
      | inl same ↦ subst P same (all 0 m (omega arith))
      | inr later ↦ above_all P list n (λ k x below. all (suc k) x (omega arith)) later
    ]

pub names_by_runs : (name : ℕ → Option (List ℕ)) (ds : List Datom) (list : List ℕ) → Climbs ds → Rise list
    → ((a : ℕ) → Contains list a ↔ Some_has ds a)
    → names_in_order (filter_map name list) ≡ names_in_order (filter_map (λ (d : Datom). name d.a) ds)
names_by_runs name [] [] climbs rising same = refl
names_by_runs name [] (a ∷ list) climbs rising same =
    let none = (same a).0 (contains_head a list a refl) in absurd (none_of none.0 none.1)
names_by_runs name (x ∷ ds) [] climbs rising same = absurd (contains_none x.a ((same x.a).1 (x, here x ds, refl)))
names_by_runs name (x ∷ []) (a ∷ list) climbs rising same =
    put_first name a list
    ∙ ap (λ n. put (name n) (names_in_order (filter_map name list))) first
    ∙ ap (put (name x.a)) (names_by_runs name [] list tt rising.1
    (λ b. (λ member. absurd (only b member), λ some. absurd (none_of some.0 some.1))))
    ∙ sym (put_datom name x [])
  where
    first : a ≡ x.a
    first =
        let own = (same a).0 (contains_head a list a refl) in elim (cases_of x own.0 [] own.1)
        [ inl is ↦ sym own.2 ∙ ap (λ (d : Datom). d.a) (sym is) | inr none ↦ absurd (none_of own.0 none) ]

    only : (b : ℕ) → Contains list b → ⊥
    only b member =
        let own = (same b).0 (contains_tail a list b member) in
        let above : a < b = above_all (λ m. a < m) list b rising.0 member in
        elim (cases_of x own.0 [] own.1) [
          | inl is ↦ let equal : x.a ≡ b = ap (λ (d : Datom). d.a) is ∙ own.2 in impossible a b x.a above first equal
          | inr none ↦ absurd (none_of own.0 none)
        ]
      where
        impossible : (a b c : ℕ) → a < b → a ≡ c → c ≡ b → ⊥
        impossible a b c above first equal = omega (arith, above, first, equal)
names_by_runs name (x ∷ y ∷ ds) (a ∷ list) climbs rising same =
    elim (cases_lt x.a y.a) [
      | inl apart ↦
          put_first name a list
          ∙ ap (λ n. put (name n) (names_in_order (filter_map name list))) first
          ∙ ap (put (name x.a)) (names_by_runs name (y ∷ ds) list climbs.1 rising.1 (rest apart))
          ∙ sym (put_datom name x (y ∷ ds))
      | inr close ↦
          let equal : y.a ≡ x.a = omega (arith, close, climbs.0 y (here y ds)) in
          names_by_runs name (y ∷ ds) (a ∷ list) climbs.1 rising (both equal)
          ∙ put_datom name y ds
          ∙ sym (put_again (name y.a) (names_in_order (filter_map (λ (d : Datom). name d.a) ds)))
          ∙ ap (put (name y.a)) (sym (put_datom name y ds))
          ∙ ap (λ n. put (name n) (names_in_order (filter_map (λ (d : Datom). name d.a) (y ∷ ds)))) equal
          ∙ sym (put_datom name x (y ∷ ds))
    ]
  where
    least : (d : Datom) → Contains (x ∷ y ∷ ds) d → x.a ≤ d.a
    least d member =
        elim (cases_of x d (y ∷ ds) member) [ inl is ↦ subst (λ (z : Datom). x.a ≤ z.a) is (omega arith) | inr later ↦ climbs.0 d later ]

    first : a ≡ x.a
    first =
        let own = (same a).0 (contains_head a list a refl) in
        let low : x.a ≤ a = subst (λ (n : ℕ). x.a ≤ n) own.2 (least own.0 own.1) in
        elim (contains-cons a list x.a ((same x.a).1 (x, here x (y ∷ ds), refl))) [
          | inl is ↦ is
          | inr later ↦ let above : a < x.a = above_all (λ m. a < m) list x.a rising.0 later in absurd (impossible a x.a low above)
        ]
      where
        impossible : (n m : ℕ) → m ≤ n → n < m → ⊥
        impossible n m low above = omega (arith, low, above)

    rest : x.a < y.a → (b : ℕ) → Contains list b ↔ Some_has (y ∷ ds) b
    rest apart b = (
      λ member.
          let own = (same b).0 (contains_tail a list b member) in
          let above : a < b = above_all (λ m. a < m) list b rising.0 member in
          elim (cases_of x own.0 (y ∷ ds) own.1) [
            | inl is ↦ absurd (impossible a b x.a above first (ap (λ (d : Datom). d.a) is ∙ own.2))
            | inr later ↦ (own.0, later, own.2)
          ],
      λ some. elim (contains-cons a list b ((same b).1 (some.0, there x some.0 (y ∷ ds) some.1, some.2))) [
        | inl is ↦
            let low : y.a ≤ b = subst (λ (n : ℕ). y.a ≤ n) some.2
            (elim (cases_of y some.0 ds some.1)
            [ inl same_one ↦ subst (λ (z : Datom). y.a ≤ z.a) same_one (omega arith) | inr later ↦ climbs.1.0 some.0 later ]) in
            absurd (impossible_first a b x.a y.a is first apart low)
        | inr later ↦ later
      ],
    )
      where
        impossible : (a b c : ℕ) → a < b → a ≡ c → c ≡ b → ⊥
        impossible a b c above first equal = omega (arith, above, first, equal)

        impossible_first : (a b c d : ℕ) → a ≡ b → a ≡ c → c < d → d ≤ b → ⊥
        impossible_first a b c d is first apart low = omega (arith, is, first, apart, low)

    both : y.a ≡ x.a → (b : ℕ) → Contains (a ∷ list) b ↔ Some_has (y ∷ ds) b
    both equal b = (
      λ member.
          let own = (same b).0 member in
          elim (cases_of x own.0 (y ∷ ds) own.1) [
            | inl is ↦ (y, here y ds, equal ∙ ap (λ (d : Datom). d.a) is ∙ own.2)
            | inr later ↦ (own.0, later, own.2)
          ],
      λ some. (same b).1 (some.0, there x some.0 (y ∷ ds) some.1, some.2),
    )

-- ---- of an entity

not_later : (o p : Ordering) → ordering_then o p ≡ Less → not (is_gt o) ≡ true
not_later Less p is = refl
not_later Equal p is = refl
not_later Greater p is = cc

not_above : (n m : ℕ) → not (is_gt (nat_cmp n m)) ≡ true → n ≤ m
not_above n m is = grind (arith, nat_tests, is)

same_is : (n m : ℕ) → n ≡ m → is_eq (nat_cmp n m) ≡ true
same_is n m is = grind (arith, nat_tests, is)

by_attribute : (x d : Datom) → x.e ≡ d.e → key_cmp Eavt x d ≡ Less → x.a ≤ d.a
by_attribute x d same less =
    not_above x.a d.a
    (not_later (nat_cmp x.a d.a) (ordering_then (value_cmp x.v d.v) (ordering_then (nat_cmp x.t d.t) Equal))
    (inner (nat_cmp x.e d.e) (same_is x.e d.e same) less))
  where
    inner : (o : Ordering) → is_eq o ≡ true
        → ordering_then o (ordering_then (nat_cmp x.a d.a)
        (ordering_then (value_cmp x.v d.v) (ordering_then (nat_cmp x.t d.t) Equal))) ≡ Less
        → ordering_then (nat_cmp x.a d.a) (ordering_then (value_cmp x.v d.v) (ordering_then (nat_cmp x.t d.t) Equal)) ≡ Less
    inner Less eq is = absurd (true≢false (sym eq))
    inner Equal eq is = is
    inner Greater eq is = absurd (true≢false (sym eq))

climbs_by_entity : (e : ℕ) (ds : List Datom) → ((d : Datom) → Contains ds d → d.e ≡ e) → IsRising Eavt ds → Climbs ds
climbs_by_entity e [] own rising = tt
climbs_by_entity e (x ∷ ds) own rising = (
  λ d member. by_attribute x d (own x (here x ds) ∙ sym (own d (there x d ds member))) (before_member Eavt x ds d rising.0 member),
  climbs_by_entity e ds (λ d member. own d (there x d ds member)) rising.1,
)

same_names : (f g : ℕ → Option (List ℕ)) → ((a : ℕ) → f a ≡ g a) → (list : List ℕ) → filter_map f list ≡ filter_map g list
same_names f g same [] = refl
same_names f g same (a ∷ list) = ap (λ o. cons_option o (filter_map f list)) (same a) ∙ ap (cons_option (g a)) (same_names f g same list)

names_of_datoms : (f g : ℕ → Option (List ℕ)) → ((a : ℕ) → f a ≡ g a) → (ds : List Datom)
    → filter_map (λ (d : Datom). f d.a) ds ≡ filter_map (λ (d : Datom). g d.a) ds
names_of_datoms f g same [] = refl
names_of_datoms f g same (d ∷ ds) =
    ap (λ o. cons_option o (filter_map (λ (x : Datom). f x.a) ds)) (same d.a) ∙ ap (cons_option (g d.a)) (names_of_datoms f g same ds)

module _ {S : Type 0} (db : Db S) (Selects : Datom → Type 0) (facts : model.Db) (sees : Sees db Selects facts) (e : ℕ) where
  abbrev of_entity : List Datom
  of_entity = filter (λ d. eqb d.e e) facts.seen

  some_has : (a : ℕ) → HasAttribute db.snapshot.entries (window_of db) Selects e a ↔ Some_has of_entity a
  some_has a = (
    λ has. (
      has.datom,
      keep (λ d. eqb d.e e) facts.seen has.datom ((sees.seen_is.members has.datom).1 has.in_view)
          (same has.datom.e e has.of_entity),
      has.of_attribute,
    ),
    λ some.
        let own = kept (λ d. eqb d.e e) facts.seen some.0 some.1 in
        record {
          datom = some.0;
          in_view = (sees.seen_is.members some.0).0 own.member;
          of_entity = eqb-true some.0.e e own.passes;
          of_attribute = some.2;
        },
  )
    where
      same : (n m : ℕ) → n ≡ m → eqb n m ≡ true
      same n m is = grind (arith, nat_tests, is)

  pub names_by_datoms : (schema ds : List Datom) → ((a : ℕ) → attribute_of schema a ≡ attribute_of (facts_of db.snapshot.entries) a)
      → ds ≡ of_entity → names_among schema ds ≡ model.names_of_entity facts e
  names_by_datoms schema ds same is =
      ap names_in_order (names_of_datoms (name_of schema) (name_of facts.schema)
      (λ a. ap (option_map (λ attribute. attribute.name)) (same a ∙ ap (λ (l : List Datom). attribute_of l a) (sym sees.schema_is)))
      ds)
      ∙ ap (names_among facts.schema) is

  pub names_by_attributes : (schema : List Datom) (list : List ℕ)
      → ((a : ℕ) → attribute_of schema a ≡ attribute_of (facts_of db.snapshot.entries) a) → Rise list
      → ((a : ℕ) → Contains list a ↔ HasAttribute db.snapshot.entries (window_of db) Selects e a)
      → names_in_order (filter_map (name_of schema) list) ≡ model.names_of_entity facts e
  names_by_attributes schema list same rising members =
      ap names_in_order (same_names (name_of schema) (name_of facts.schema)
      (λ a. ap (option_map (λ attribute. attribute.name)) (same a ∙ ap (λ (l : List Datom). attribute_of l a) (sym sees.schema_is)))
      list)
      ∙ names_by_runs (name_of facts.schema) of_entity list
      (climbs_by_entity e of_entity (λ d member. eqb-true d.e e (kept (λ x. eqb x.e e) facts.seen d member).passes)
      (rising-filter Eavt (λ d. eqb d.e e) facts.seen (rising_from Eavt facts.seen sees.seen_is.rising)))
      rising
      (λ a. (λ member. (some_has a).0 ((members a).0 member), λ some. (members a).1 ((some_has a).1 some)))
