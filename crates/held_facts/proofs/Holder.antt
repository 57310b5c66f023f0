-- The least entity with a value: the first of the map by value.
use Rattle.std.proofs.Common.{◌≡◌, ◌≤◌, ℕ, min, Bool, true, false, cond, List, [], ◌∷◌, Option, Some, None, refl, ap, sym, ◌∙◌, subst, inl}
use Rattle.std.proofs.Common.{inr, eqb, arith}
use Rattle.std.specs.Prelude.{Contains}
use Rattle.std.specs.List.{find}
use Rattle.std.specs.Option.{option_map}
use Rattle.std.proofs.lemmas.Bool.{true≢false, and_parts, cases_Bool, cases_lt}
use Rattle.fb_values.specs.declared.facts.Datom.{Datom}
use Rattle.fb_values.specs.declared.facts.Value.{Value}
use Rattle.fb_model.specs.Facts.{value_eq, holder, least}
use Rattle.fb_values.specs.declared.indexes.Order.TheVariants.{Vaet}
use Rattle.fb_values.specs.Orders.{value_cmp, key_cmp}
use Rattle.fb_values.specs.OrderLaws.{value_cmp_total}
use Rattle.fb_values.specs.Rising.{IsBelowAll, IsRising}
use Rattle.std.specs.Ordering.{nat_cmp, ordering_then}
use Rattle.std.specs.Cmp.{nat_cmp_total, tied_itself}
use Rattle.std.specs.declared.cmp.Ordering.{Ordering}
use Rattle.std.specs.declared.cmp.Ordering.TheVariants.{Less, Equal, Greater}
use Rattle.std.proofs.lemmas.Bool.{eqb-true}
use Rattle.fb_values.specs.declared.facts.Entry.{Entry}
use Rattle.fb_model.specs.History.{said}
use Rattle.fb_model.specs.Facts.{facts}
use Rattle.fb_model.proofs.Triples.{value_eq-true}
use Rattle.held_facts.specs.declared.fact_maps.FactMaps.{FactMaps}
use Rattle.held_facts.specs.FactMaps.{is_with, HasFacts, facts_by_value}
use Rattle.held_facts.proofs.Maps.{by_value_members, by_value_rises, contains-cons, contains_head, contains_tail, contains_none}

-- ---- the least holder

abbrev is_valued : ℕ → Value → Datom → Bool
is_valued a v d = is_with a v d

-- what a holder is among facts
abbrev IsHolder : List Datom → ℕ → Value → Option ℕ → Type 0
IsHolder ds a v None = (d : Datom) → Contains ds d → is_valued a v d ≡ true → ⊥
IsHolder ds a v (Some e) =
    ((d : Datom) × (Contains ds d × ((is_valued a v d ≡ true) × (d.e ≡ e)))) ×
    ((d : Datom) → Contains ds d → is_valued a v d ≡ true → e ≤ d.e)

holder_now : (d : Datom) (ds : List Datom) (a : ℕ) (v : Value) (rest : Option ℕ) → is_valued a v d ≡ true → IsHolder ds a v rest
    → IsHolder (d ∷ ds) a v (least d.e rest)
holder_now d ds a v None valued is = (
  (d, (contains_head d ds d refl, (valued, refl))),
  λ x there own. elim (contains-cons d ds x there) [
    | inl same ↦ subst (λ (z : Datom). d.e ≤ z.e) same (omega arith)
    | inr behind ↦ absurd (is x behind own)
  ],
)
holder_now d ds a v (Some f) valued is =
    elim (cases_lt f d.e) [
      | inl less ↦
          let P : ℕ → Type 0 = λ n. IsHolder (d ∷ ds) a v (Some n) in
          let low : f ≡ min d.e f = omega (arith, less) in
          subst P low (
            (is.0.0, (contains_tail d ds is.0.0 is.0.1.0, is.0.1.1)),
            λ x there own. elim (contains-cons d ds x there) [
              | inl same ↦ subst (λ (z : Datom). f ≤ z.e) same (omega (arith, less))
              | inr behind ↦ is.1 x behind own
            ],
          )
      | inr not_less ↦
          let P : ℕ → Type 0 = λ n. IsHolder (d ∷ ds) a v (Some n) in
          let low : d.e ≡ min d.e f = omega (arith, not_less) in
          subst P low (
            (d, (contains_head d ds d refl, (valued, refl))),
            λ x there own. elim (contains-cons d ds x there) [
              | inl same ↦ subst (λ (z : Datom). d.e ≤ z.e) same (omega arith)
              | inr behind ↦ let bound = is.1 x behind own in omega (arith, bound, not_less)
            ],
          )
    ]

holder_later : (d : Datom) (ds : List Datom) (a : ℕ) (v : Value) (rest : Option ℕ) → is_valued a v d ≡ false → IsHolder ds a v rest
    → IsHolder (d ∷ ds) a v rest
holder_later d ds a v None other is = λ x there own. elim (contains-cons d ds x there) [
  | inl same ↦ true≢false (sym (subst (λ (z : Datom). is_valued a v z ≡ true) (sym same) own) ∙ other)
  | inr behind ↦ is x behind own
]
holder_later d ds a v (Some e) other is = (
  (is.0.0, (contains_tail d ds is.0.0 is.0.1.0, is.0.1.1)),
  λ x there own. elim (contains-cons d ds x there) [
    | inl same ↦ absurd (true≢false (sym (subst (λ (z : Datom). is_valued a v z ≡ true) (sym same) own) ∙ other))
    | inr behind ↦ is.1 x behind own
  ],
)

holder_is : (ds : List Datom) (a : ℕ) (v : Value) → IsHolder ds a v (holder ds a v)
holder_is [] a v = λ d there own. contains_none d there
holder_is (d ∷ ds) a v =
    let P : Bool → Type 0 = λ b. IsHolder (d ∷ ds) a v (cond b (least d.e (holder ds a v)) (holder ds a v)) in
    elim (cases_Bool (is_valued a v d)) [
      | inl valued ↦ subst P (sym valued) (holder_now d ds a v (holder ds a v) valued (holder_is ds a v))
      | inr other ↦ subst P (sym other) (holder_later d ds a v (holder ds a v) other (holder_is ds a v))
    ]

-- two lists with the same facts of the value have one holder
record HasSame (a : ℕ) (v : Value) (ds es : List Datom) : Type 0 where
  forth : (d : Datom) → Contains ds d → is_valued a v d ≡ true → Contains es d
  back : (d : Datom) → Contains es d → is_valued a v d ≡ true → Contains ds d

one_holder : (ds es : List Datom) (a : ℕ) (v : Value) (x y : Option ℕ) → HasSame a v ds es → IsHolder ds a v x → IsHolder es a v y → x ≡ y
one_holder ds es a v None None same first second = refl
one_holder ds es a v None (Some e) same first second =
    absurd (first second.0.0 (same.back second.0.0 second.0.1.0 second.0.1.1.0) second.0.1.1.0)
one_holder ds es a v (Some e) None same first second =
    absurd (second first.0.0 (same.forth first.0.0 first.0.1.0 first.0.1.1.0) first.0.1.1.0)
one_holder ds es a v (Some e) (Some f) same first second =
    let low = first.1 second.0.0 (same.back second.0.0 second.0.1.0 second.0.1.1.0) second.0.1.1.0 in
    let high = second.1 first.0.0 (same.forth first.0.0 first.0.1.0 first.0.1.1.0) first.0.1.1.0 in
    let is_e = first.0.1.1.1 in
    let is_f = second.0.1.1.1 in
    let one : e ≡ f = omega (arith, low, high, is_e, is_f) in
    ap Some one

-- ---- the first with the value

upto : (r s : Ordering) (e f : ℕ) (u : Ordering) → r ≡ Equal → s ≡ Equal
    → ordering_then r (ordering_then s (ordering_then (nat_cmp e f) u)) ≡ Less → e ≤ f
upto Less s e f u tied also is = absurd (cc)
upto Greater s e f u tied also is = absurd (cc)
upto Equal Less e f u tied also is = absurd (cc)
upto Equal Greater e f u tied also is = absurd (cc)
upto Equal Equal e f u tied also is =
    elim (cases_lt f e) [
      | inl less ↦
          let above : nat_cmp e f ≡ Greater = grind (arith, less) in
          let far = sym (ap (λ r. ordering_then r u) above) ∙ is in
          absurd (cc)
      | inr not_less ↦ omega (arith, not_less)
    ]

content_upto : (a : ℕ) (v : Value) (x y : Datom) → is_with a v x ≡ true → is_with a v y ≡ true → key_cmp Vaet x y ≡ Less → x.e ≤ y.e
content_upto a v x y of_x of_y less =
    let parts_x = and_parts (eqb x.a a) (value_eq x.v v) of_x in
    let parts_y = and_parts (eqb y.a a) (value_eq y.v v) of_y in
    let one_a : x.a ≡ y.a = eqb-true x.a a parts_x.0 ∙ sym (eqb-true y.a a parts_y.0) in
    let one_v : x.v ≡ y.v = value_eq-true x.v v parts_x.1 ∙ sym (value_eq-true y.v v parts_y.1) in
    let same_a : nat_cmp x.a y.a ≡ Equal = ap (λ n. nat_cmp n y.a) one_a ∙ tied_itself nat_cmp_total y.a in
    let same_v : value_cmp x.v y.v ≡ Equal = ap (λ w. value_cmp w y.v) one_v ∙ tied_itself value_cmp_total y.v in
    upto (value_cmp x.v y.v) (nat_cmp x.a y.a) x.e y.e (ordering_then (nat_cmp x.t y.t) Equal) same_v same_a less

before_member : (x : Datom) (ds : List Datom) (d : Datom) → IsBelowAll Vaet x ds → Contains ds d → key_cmp Vaet x d ≡ Less
before_member x [] d before there = absurd (contains_none d there)
before_member x (y ∷ ds) d before there =
    elim (contains-cons y ds d there) [
      | inl same ↦ subst (λ (z : Datom). key_cmp Vaet x z ≡ Less) same before.0
      | inr behind ↦ before_member x ds d before.1 behind
    ]

first_is : (ds : List Datom) (a : ℕ) (v : Value) → IsRising Vaet ds → IsHolder ds a v (option_map (λ d. d.e) (find (is_with a v) ds))
first_is [] a v rising = λ d there own. contains_none d there
first_is (d ∷ ds) a v rising =
    elim (cases_Bool (is_with a v d)) [
      | inl valued ↦
          let first : IsHolder (d ∷ ds) a v (Some d.e) = (
            (d, (contains_head d ds d refl, (valued, refl))),
            λ x there own. elim (contains-cons d ds x there) [
              | inl same ↦ subst (λ (z : Datom). d.e ≤ z.e) same (omega arith)
              | inr behind ↦ content_upto a v d x valued own (before_member d ds x rising.0 behind)
            ],
          ) in
          rw valued first
      | inr other ↦ rw other (holder_later d ds a v (option_map (λ x. x.e) (find (is_with a v) ds)) other (first_is ds a v rising.1))
    ]

pub told_holder : (h : List Entry) (kept : FactMaps) → HasFacts (said h) kept → (a : ℕ) (v : Value)
    → option_map (λ d. d.e) (find (is_with a v) (facts_by_value kept)) ≡ holder (facts h) a v
told_holder h kept has a v =
    let same = by_value_members (said h) kept has in
    one_holder (facts_by_value kept) (facts h) a v _ _
    (record { forth = λ d there own. (same d).0 there; back = λ d there own. (same d).1 there })
    (first_is (facts_by_value kept) a v (by_value_rises kept has.values_ordered))
    (holder_is (facts h) a v)
