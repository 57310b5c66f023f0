-- What a member is in a view; and where a list has exactly the facts of the view, the tuples in the
-- view are those of the list.
use Rattle.std.proofs.Common.{inl, inr, ◌≡◌, ℕ, Bool, true, false, cond, ◌&&◌, List, [], ◌∷◌, refl, sym, ◌∙◌, ap, subst}
use Rattle.std.proofs.Common.{Option, Some, None}
use Rattle.std.specs.Prelude.{◌↔◌, Contains, filter, nat_eq, is_some}
use Rattle.std.specs.List.{list_any}
use Rattle.std.specs.Option.{option_map_or}
use Rattle.std.specs.Ordering.{is_lt, ordering_reverse}
use Rattle.std.specs.Cmp.{tied_itself}
use Rattle.std.specs.declared.cmp.Ordering.{Ordering}
use Rattle.std.specs.declared.cmp.Ordering.TheVariants.{Less, Equal, Greater}
use Rattle.std.proofs.lemmas.Bool.{true≢false, and_parts, and_from, or_cases, or_left, or_right, eqb-true, eq-eqb}
use Rattle.fb_values.specs.Orders.{value_cmp}
use Rattle.fb_values.specs.OrderLaws.{value_cmp_total, value_cmp-IsAntisymmetric}
use Rattle.fb_values.specs.declared.facts.Datom.{Datom}
use Rattle.fb_values.specs.declared.facts.Entry.{Entry}
use Rattle.fb_values.specs.declared.facts.Value.{Value}
use Rattle.fb_model.specs.Facts.{values_of}
use Rattle.fb_model.specs.Schema.{is_about}
use Rattle.view_model.specs.Window.{Window, without_history}
use Rattle.view_model.specs.View.{InView}
use Rattle.tuple_model.specs.Composite.{is_among}
use Rattle.tuple_model.specs.Tuples.{Tuple, Row, least_value, tuple_of, has_one_of, IsRowOf, AreTuples, is_in_range, range}
use Rattle.tuple_model.specs.Seen.{IsMember, AreMembers, IsTupleIn, AreTuplesIn}
use Rattle.tuple_model.proofs.Members.{here, there, cases_of, none_of, kept_member, kept_has, any_has, any_member, map_has, map_member}
use Rattle.tuple_model.proofs.Rows.{one_rising_list, filter-rises}

-- ---- the order of values

is_less : (r : Ordering) → is_lt r ≡ true → r ≡ Less
is_less Less e = refl
is_less Equal e = absurd (true≢false (sym e))
is_less Greater e = absurd (true≢false (sym e))

not_itself : (v : Value) → is_lt (value_cmp v v) ≡ false
not_itself v = ap is_lt (tied_itself value_cmp_total v)

not_back : (v w : Value) → is_lt (value_cmp v w) ≡ true → is_lt (value_cmp w v) ≡ false
not_back v w lt = ap is_lt (value_cmp_total.antisymm w v ∙ ap ordering_reverse (is_less (value_cmp v w) lt))

-- what is not below one that is not below another is not below that
not_below : (x w v : Value) → is_lt (value_cmp x w) ≡ false → is_lt (value_cmp w v) ≡ false → is_lt (value_cmp x v) ≡ false
not_below x w v p q = go (value_cmp w v) refl (value_cmp x v) refl
  where
    go : (r : Ordering) → value_cmp w v ≡ r → (s : Ordering) → value_cmp x v ≡ s → is_lt s ≡ false
    go r is Equal also = refl
    go r is Greater also = refl
    go Less is Less also = absurd (true≢false (sym (ap is_lt is) ∙ q))
    go Equal is Less also =
        absurd (true≢false (sym (ap is_lt (ap (value_cmp x) (value_cmp-IsAntisymmetric w v is) ∙ also)) ∙ p))
    go Greater is Less also =
        absurd (true≢false (sym (ap is_lt (value_cmp_total.trans x v w also (value_cmp_total.antisymm v w ∙ ap ordering_reverse is))) ∙ p))

one_value : (v w : Value) → is_lt (value_cmp v w) ≡ false → is_lt (value_cmp w v) ≡ false → v ≡ w
one_value v w p q = go (value_cmp v w) refl
  where
    go : (r : Ordering) → value_cmp v w ≡ r → v ≡ w
    go Less is = absurd (true≢false (sym (ap is_lt is) ∙ p))
    go Equal is = value_cmp-IsAntisymmetric v w is
    go Greater is = absurd (true≢false (sym (ap is_lt (value_cmp_total.antisymm w v ∙ ap ordering_reverse is)) ∙ q))

-- ---- the least of a list

abbrev IsLeast : List Value → Option Value → Type 0
IsLeast vs None = (v : Value) → Contains vs v → ⊥
IsLeast vs (Some v) = Contains vs v × ((x : Value) → Contains vs x → is_lt (value_cmp x v) ≡ false)

least_value-IsLeast : (vs : List Value) → IsLeast vs (least_value vs)
least_value-IsLeast [] = λ v member. none_of v member
least_value-IsLeast (v ∷ vs) = go (least_value vs) (least_value-IsLeast vs)
  where
    which : (w : Value) → IsLeast vs (Some w) → (b : Bool) → is_lt (value_cmp w v) ≡ b → IsLeast (v ∷ vs) (cond b (Some w) (Some v))
    which w least true is = (
      there v w vs least.0,
      λ x member. elim (cases_of v x vs member) [
        | inl same ↦ subst (λ z. is_lt (value_cmp z w) ≡ false) same (not_back w v is)
        | inr later ↦ least.1 x later
      ],
    )
    which w least false is = (
      here v vs,
      λ x member. elim (cases_of v x vs member) [
        | inl same ↦ subst (λ z. is_lt (value_cmp z v) ≡ false) same (not_itself v)
        | inr later ↦ not_below x w v (least.1 x later) is
      ],
    )

    go : (least : Option Value) → IsLeast vs least
        → IsLeast (v ∷ vs) (option_map_or (λ w. cond (is_lt (value_cmp w v)) (Some w) (Some v)) least (Some v))
    go None none = (
      here v vs,
      λ x member. elim (cases_of v x vs member) [
        | inl same ↦ subst (λ z. is_lt (value_cmp z v) ≡ false) same (not_itself v)
        | inr later ↦ absurd (none x later)
      ],
    )
    go (Some w) least = which w least (is_lt (value_cmp w v)) refl

-- ---- a view has one tuple of an entity

module _ (h : List Entry) (w : Window) (Selects : Datom → Type 0) where
  one_member : (e a : ℕ) (m n : Option Value) → IsMember h w Selects e a m → IsMember h w Selects e a n → m ≡ n
  one_member e a None None is also = refl
  one_member e a None (Some v) is also = absurd (is also.0.0 also.0.1 also.0.2)
  one_member e a (Some v) None is also = absurd (also is.0.0 is.0.1 is.0.2)
  one_member e a (Some v) (Some x) is also =
      let first = subst (λ z. is_lt (value_cmp z x) ≡ false) is.0.3 (also.1 is.0.0 is.0.1 is.0.2) in
      let second = subst (λ z. is_lt (value_cmp z v) ≡ false) also.0.3 (is.1 also.0.0 also.0.1 also.0.2) in
      ap Some (one_value v x first second)

  pub one_tuple : (e : ℕ) (attrs : List ℕ) (s t : Tuple) → AreMembers h w Selects e attrs s → AreMembers h w Selects e attrs t → s ≡ t
  one_tuple e [] [] [] are also = refl
  one_tuple e [] [] (n ∷ t) are also = absurd also
  one_tuple e [] (m ∷ s) t are also = absurd are
  one_tuple e (a ∷ attrs) [] t are also = absurd are
  one_tuple e (a ∷ attrs) (m ∷ s) [] are also = absurd also
  one_tuple e (a ∷ attrs) (m ∷ s) (n ∷ t) are also =
      let first = one_member e a m n are.0 also.0 in
      let rest = one_tuple e attrs s t are.1 also.1 in
      λ i. first i ∷ rest i

  pub one_list_in : (attrs : List ℕ) (start end : Option Tuple) (xs ys : List Row)
      → AreTuplesIn h w Selects attrs start end xs → AreTuplesIn h w Selects attrs start end ys → xs ≡ ys
  one_list_in attrs start end xs ys one other =
      one_rising_list xs ys one.rising other.rising
      (λ d member. (other.members d).1 ((one.members d).0 member))
      (λ d member. (one.members d).1 ((other.members d).0 member))

  pub part_of_all : (attrs : List ℕ) (start end : Option Tuple) (rows : List Row)
      → AreTuplesIn h w Selects attrs None None rows → AreTuplesIn h w Selects attrs start end (range start end rows)
  part_of_all attrs start end rows are = record {
    rising = filter-rises (is_in_range start end) rows are.rising;
    members = λ row. (
      λ member.
          let inside = kept_member (is_in_range start end) rows row member in (((are.members row).0 inside.0).0, inside.1),
      λ is.
          kept_has (is_in_range start end) rows row ((are.members row).1 (is.0, refl)) is.1,
    );
  }

-- ---- the values of an entity in the facts

some_value : (vs : List Value) (v : Value) → Contains vs v → is_some (least_value vs) ≡ true
some_value vs v member = go (least_value vs) (least_value-IsLeast vs)
  where
    go : (m : Option Value) → IsLeast vs m → is_some m ≡ true
    go None none = absurd (none v member)
    go (Some x) least = refl

a_value : (vs : List Value) → is_some (least_value vs) ≡ true → (v : Value) × Contains vs v
a_value vs some = go (least_value vs) (least_value-IsLeast vs) some
  where
    go : (m : Option Value) → IsLeast vs m → is_some m ≡ true → (v : Value) × Contains vs v
    go None none is = absurd (true≢false (sym is))
    go (Some x) least is = (x, least.0)

module _ (facts : List Datom) where
  value_has : (e a : ℕ) (d : Datom) → Contains facts d → is_about e a d ≡ true → Contains (values_of facts e a) d.v
  value_has e a d member about = map_has (λ (x : Datom). x.v) (filter (is_about e a) facts) d (kept_has (is_about e a) facts d member about)

  value_member : (e a : ℕ) (v : Value) → Contains (values_of facts e a) v → (d : Datom) × Contains facts d × (is_about e a d ≡ true) × (d.v ≡ v)
  value_member e a v member =
      let from = map_member (λ (x : Datom). x.v) (filter (is_about e a) facts) v member in
      let kept = kept_member (is_about e a) facts from.0 from.1 in
      (from.0, kept.0, kept.1, from.2)

  some_from_has : (attrs : List ℕ) (e : ℕ) (d : Datom) → Contains facts d → d.e ≡ e → is_among attrs d.a ≡ true
      → list_any is_some (tuple_of facts attrs e) ≡ true
  some_from_has [] e d member same among = absurd (true≢false (sym among))
  some_from_has (a ∷ attrs) e d member same among = elim (or_cases (nat_eq d.a a) (is_among attrs d.a) among) [
    | inl first ↦ or_left _ _ (some_value (values_of facts e a) d.v (value_has e a d member (and_from _ _ (eq-eqb d.e e same) first)))
    | inr later ↦ or_right _ _ (some_from_has attrs e d member same later)
  ]

  pub has_from_some : (attrs : List ℕ) (e : ℕ) → list_any is_some (tuple_of facts attrs e) ≡ true
      → (d : Datom) × Contains facts d × (nat_eq d.e e ≡ true) × (is_among attrs d.a ≡ true)
  has_from_some [] e some = absurd (true≢false (sym some))
  has_from_some (a ∷ attrs) e some =
      elim (or_cases (is_some (least_value (values_of facts e a))) (list_any is_some (tuple_of facts attrs e)) some) [
        | inl first ↦ at_first first
        | inr later ↦ let rest = has_from_some attrs e later in (rest.0, rest.1, rest.2, or_right _ _ rest.3)
      ]
    where
      at_first : is_some (least_value (values_of facts e a)) ≡ true
          → (d : Datom) × Contains facts d × (nat_eq d.e e ≡ true) × (is_among (a ∷ attrs) d.a ≡ true)
      at_first first =
          let v = a_value (values_of facts e a) first in
          let from = value_member e a v.0 v.1 in
          let parts = and_parts (nat_eq from.0.e e) (nat_eq from.0.a a) from.2 in
          (from.0, from.1, parts.0, or_left _ _ parts.1)

  -- the entity has a value of one of the attributes exactly if a member of its tuple is not nil
  pub has_one_of-some : (attrs : List ℕ) (e : ℕ) → has_one_of facts attrs e ≡ list_any is_some (tuple_of facts attrs e)
  has_one_of-some attrs e = go (has_one_of facts attrs e) refl (list_any is_some (tuple_of facts attrs e)) refl
    where
      go : (b : Bool) → has_one_of facts attrs e ≡ b → (c : Bool) → list_any is_some (tuple_of facts attrs e) ≡ c → b ≡ c
      go true is true also = refl
      go false is false also = refl
      go true is false also =
          let found = any_member (λ (d : Datom). nat_eq d.e e && is_among attrs d.a) facts is in
          let parts = and_parts (nat_eq found.0.e e) (is_among attrs found.0.a) found.2 in
          sym (some_from_has attrs e found.0 found.1 (eqb-true found.0.e e parts.0) parts.1) ∙ also
      go false is true also =
          let found = has_from_some attrs e also in
          sym is ∙ any_has (λ (d : Datom). nat_eq d.e e && is_among attrs d.a) facts found.0 found.1 (and_from _ _ found.2 found.3)

-- ---- a list of exactly the facts of a view

module _ (h : List Entry) (w : Window) (Selects : Datom → Type 0) (facts : List Datom)
    (exact : (d : Datom) → Contains facts d ↔ InView h (without_history w) Selects d) where
  member_of : (e a : ℕ) (m : Option Value) → IsLeast (values_of facts e a) m → IsMember h w Selects e a m
  member_of e a None none = λ d seen about. none d.v (value_has facts e a d ((exact d).1 seen) about)
  member_of e a (Some v) least =
      let from = value_member facts e a v least.0 in
      ((from.0, (exact from.0).0 from.1, from.2, from.3), λ d seen about. least.1 d.v (value_has facts e a d ((exact d).1 seen) about))

  members_of : (attrs : List ℕ) (e : ℕ) → AreMembers h w Selects e attrs (tuple_of facts attrs e)
  members_of [] e = tt
  members_of (a ∷ attrs) e =
      (member_of e a (least_value (values_of facts e a)) (least_value-IsLeast (values_of facts e a)), members_of attrs e)

  row_of_tuple : (attrs : List ℕ) (row : Row) → IsTupleIn h w Selects attrs row → IsRowOf facts attrs row
  row_of_tuple attrs row is =
      let same = one_tuple h w Selects row.e attrs row.tuple (tuple_of facts attrs row.e) is.members (members_of attrs row.e) in
      record { some = has_one_of-some facts attrs row.e ∙ ap (list_any is_some) (sym same) ∙ is.some; tuple_is = same }

  tuple_of_row : (attrs : List ℕ) (row : Row) → IsRowOf facts attrs row → IsTupleIn h w Selects attrs row
  tuple_of_row attrs row is = record {
    members = subst (AreMembers h w Selects row.e attrs) (sym is.tuple_is) (members_of attrs row.e);
    some = ap (list_any is_some) is.tuple_is ∙ sym (has_one_of-some facts attrs row.e) ∙ is.some;
  }

  pub tuples_in_view : (attrs : List ℕ) (rows : List Row) → AreTuplesIn h w Selects attrs None None rows → AreTuples facts attrs rows
  tuples_in_view attrs rows are = record {
    rising = are.rising;
    members = λ row. (
      λ member. row_of_tuple attrs row ((are.members row).0 member).0,
      λ is.
          (are.members row).1 (tuple_of_row attrs row is, refl),
    );
  }

  pub tuples_of_facts : (attrs : List ℕ) (rows : List Row) → AreTuples facts attrs rows → AreTuplesIn h w Selects attrs None None rows
  tuples_of_facts attrs rows are = record {
    rising = are.rising;
    members = λ row. (
      λ member. (tuple_of_row attrs row ((are.members row).0 member), refl),
      λ is.
          (are.members row).1 (row_of_tuple attrs row is.0),
    );
  }
