-- What the lists of a snapshot tell of its history.
use Rattle.std.proofs.Common.{◌≡◌, ◌∙◌, ℕ, ◌≤◌, ◌⊎◌, inl, inr, Bool, true, false, ◌&&◌, cond, List, [], ◌∷◌, refl, sym, ap, subst, arith}
use Rattle.std.proofs.Common.{eqb, Option, Some, None, min}
use Rattle.std.specs.Prelude.{Contains, IsTrue, find, is_some}
use Rattle.std.specs.List.{list_any}
use Rattle.std.specs.Option.{option_map, option_map_or}
use Rattle.std.specs.declared.cmp.Ordering.TheVariants.{Equal}
use Rattle.std.specs.Cmp.{tied_itself}
use Rattle.std.specs.Cmp.Lexicographic.{slice_cmp, lists_total}
use Rattle.std.proofs.lemmas.Bool.{true≢false, cases_Bool, cases_lt, eqb-true, eq-eqb, and_parts, and_from}
use Rattle.std.proofs.lemmas.List.Elements.{Contains-append_cases}
use Rattle.fb_values.specs.declared.facts.Datom.{Datom}
use Rattle.fb_values.specs.declared.facts.Entry.{Entry}
use Rattle.fb_values.specs.declared.facts.Value.{Value}
use Rattle.fb_values.specs.declared.facts.Value.TheVariants.{Ref}
use Rattle.fb_values.specs.declared.indexes.Order.{Order}
use Rattle.fb_values.specs.declared.indexes.Order.TheVariants.{Eavt, Vaet}
use Rattle.fb_values.specs.Orders.{key_of, value_cmp}
use Rattle.fb_values.specs.OrderLaws.{value_cmp_total}
use Rattle.fb_values.specs.Lists.{list_in}
use Rattle.fb_values.specs.Rising.{IsRising}
use Rattle.fb_numbers.specs.Numbers.{type_ref, is_reference}
use Rattle.fb_model.specs.History.{said, upto}
use Rattle.fb_model.specs.Facts.{is_of, value_eq, holds, holder, least, facts}
use Rattle.fb_model.specs.Types.{is_of_type}
use Rattle.fb_model.specs.Schema.{Attribute, attribute_of, covers, is_held}
use Rattle.fb_model.specs.Lawful.{IsLawful}
use Rattle.fb_model.proofs.Members.{member_passes, some_member, any_member}
use Rattle.fb_model.proofs.KnownFacts.{said_typed}
use Rattle.fb_model.proofs.Times.{same_keys, one_for_each_key}
use Rattle.fb_model.proofs.Triples.{is_of-true, value_eq-true, holds-facts}
use Rattle.live_index.proofs.Members.{contains-cons, contains_head, contains_tail, contains_none}
use Rattle.view_model.specs.Stands.{IsIndexed, IsLive}
use Rattle.seg_tree.specs.Nodes.{tree_datoms}
use Rattle.seg_tree.specs.Indexes.{tree_in, trees_of}
use Rattle.seg_tree.proofs.Indexes.{list_in-trees_of}
use Rattle.fb_facts.specs.FactLists.{facts_in}
use Rattle.fb_facts.proofs.Lists.{facts_in-rising}
use Rattle.fb_view.specs.SnapshotModel.{SnapshotModel, Stands}
use Rattle.fb_values.proofs.Rising.{rising_from}
use Rattle.live_index.specs.Halves.{IsPair}
use Rattle.live_index.proofs.Together.{before_member}
use Rattle.fb_view.proofs.Standing.{said_early, early_said}
use Rattle.fb_view.proofs.Lasting.{entity_upto}

module _ (k : SnapshotModel) (stands : Stands k) (order : Order) where
  lawful : IsLawful k.entries
  lawful = stands.history.lawful

  pub from_older : (d : Datom) → Contains (tree_datoms (tree_in k.roots order)) d
      → Contains (said k.entries) d × (d.t ≤ k.covered) × IsTrue (covers (facts (upto k.entries k.covered)) order d.a)
  from_older d there =
      let is =
      ((stands.history.roots_stand.trees order).members d).0
      (subst (λ (l : List Datom). Contains l d) (sym (list_in-trees_of k.roots order)) there) in
      let early = said_early k.entries k.covered d lawful is.is_said in
      (early.0, early.1, is.is_covered)

  pub from_live : (d : Datom) → Contains (list_in k.live order) d → IsIndexed k.entries order d × IsLive k.entries k.covered order d
  from_live d there = ((stands.history.live_stands order).members d).0 there

  pub was_said : (d : Datom) → Contains (tree_datoms (tree_in k.roots order)) d ⊎ Contains (list_in k.live order) d
      → Contains (said k.entries) d
  was_said d given = elim given [ inl a ↦ (from_older d a).0 | inr b ↦ (from_live d b).0.is_said ]

  -- the two lists of the order
  pub pair_stands : IsPair order (tree_datoms (tree_in k.roots order)) (list_in k.live order)
  pair_stands = record {
    older_rises =
        subst (IsRising order) (list_in-trees_of k.roots order)
        (rising_from order (list_in (trees_of k.roots) order) (stands.history.roots_stand.trees order).rising);
    live_rises = rising_from order (list_in k.live order) (stands.history.live_stands order).rising;
    apart = λ d older live.
        let was = from_older d older in
        let is = from_live d live in
        elim is.1 [ inl later ↦ let early = was.1 in omega (arith, later, early) | inr bare ↦ true≢false (sym was.2 ∙ bare) ];
    single = λ x y x_in y_in at.
        (one_for_each_key k.entries lawful).same x y
        (was_said x (Contains-append_cases (tree_datoms (tree_in k.roots order)) (list_in k.live order) x x_in))
        (was_said y (Contains-append_cases (tree_datoms (tree_in k.roots order)) (list_in k.live order) y y_in))
        (subst (λ key. slice_cmp value_cmp (key_of Eavt x) key ≡ Equal) (same_keys Eavt x y at)
        (tied_itself (lists_total value_cmp_total) (key_of Eavt x)));
  }

  -- what the index holds is in one of them
  pub in_one : (d : Datom) → Contains (said k.entries) d → IsTrue (covers (facts k.entries) order d.a)
      → Contains (tree_datoms (tree_in k.roots order)) d ⊎ Contains (list_in k.live order) d
  in_one d there covered =
      elim (cases_lt k.covered d.t) [
        | inl later ↦ inr (live (inl later))
        | inr early ↦
            elim (cases_Bool (covers (facts (upto k.entries k.covered)) order d.a)) [
              | inl was ↦ inl (subst (λ (l : List Datom). Contains l d) (list_in-trees_of k.roots order)
                  (((stands.history.roots_stand.trees order).members d).1
                  (record { is_said = early_said k.entries k.covered d lawful there early; is_covered = was })))
              | inr was_not ↦ inr (live (inr was_not))
            ]
      ]
    where
      live : IsLive k.entries k.covered order d → Contains (list_in k.live order) d
      live is = ((stands.history.live_stands order).members d).1 (record { is_said = there; is_covered = covered }, is)

-- ---- what passes with all of its triple

pub whole_by : (f : ℕ → ℕ → Value → Bool) (d x : Datom) → is_of d.e d.a d.v x ≡ true → f d.e d.a d.v ≡ true → f x.e x.a x.v ≡ true
whole_by f d x is passes = let same = is_of-true d.e d.a d.v x is in rw (same.e_is, same.a_is, same.v_is) passes

-- ---- refs are of attributes that VAET holds

ref_held : (found : Option Attribute) (e : ℕ) → option_map_or (λ attribute. is_of_type attribute.kind (Ref e)) found false ≡ true
    → option_map_or (is_held Vaet) found false ≡ true
ref_held None e typed = typed
ref_held (Some attribute) e typed =
    let formed = and_parts (eqb type_ref attribute.kind && is_reference e) true typed in
    let same = eqb-true type_ref attribute.kind (and_parts (eqb type_ref attribute.kind) (is_reference e) formed.0).0 in
    eq-eqb attribute.kind type_ref (sym same)

pub refs_covered : (h : List Entry) (e : ℕ) → IsLawful h → (d : Datom) → Contains (said h) d → value_eq d.v (Ref e) ≡ true
    → IsTrue (covers (facts h) Vaet d.a)
refs_covered h e lawful d there is =
    let typed = member_passes _ (said h) d (said_typed h lawful) there in
    ref_held (attribute_of (facts h) d.a) e
    (subst (λ (v : Value). option_map_or (λ attribute. is_of_type attribute.kind v) (attribute_of (facts h) d.a) false ≡ true)
    (value_eq-true d.v (Ref e) is) typed)

-- ---- a value among facts

is_some-find : (q : Datom → Bool) (ds : List Datom) → is_some (option_map (λ d. d.e) (find q ds)) ≡ list_any q ds
is_some-find q [] = refl
is_some-find q (d ∷ ds) =
    elim (cases_Bool (q d)) [
      | inl passes ↦ rw passes refl
      | inr fails ↦ rw fails (is_some-find q ds)
    ]

same_any : (a b : Bool) → (a ≡ true → b ≡ true) → (b ≡ true → a ≡ true) → a ≡ b
same_any true b forth back = sym (forth refl)
same_any false true forth back = absurd (true≢false (sym (back refl)))
same_any false false forth back = refl

-- the told list of an entity and an attribute has a fact with the value exactly where the triple holds
pub found_holds : (h : List Entry) (e a : ℕ) (v : Value) (passes : Datom → Bool)
    → ((d : Datom) → passes d ≡ true → (d.e ≡ e) × (d.a ≡ a)) → ((d : Datom) → is_of e a v d ≡ true → passes d ≡ true)
    → is_some (option_map (λ d. d.e) (find (λ d. value_eq d.v v) (facts_in Eavt passes h))) ≡ holds h e a v
found_holds h e a v passes about all_of =
    is_some-find (λ d. value_eq d.v v) (facts_in Eavt passes h) ∙ same_any _ _ forth back ∙ sym (holds-facts h e a v)
  where
    forth : list_any (λ d. value_eq d.v v) (facts_in Eavt passes h) ≡ true → list_any (is_of e a v) (facts h) ≡ true
    forth some =
        let found = some_member (λ d. value_eq d.v v) (facts_in Eavt passes h) some in
        let told_one = ((facts_in-rising h Eavt passes).members found.0).0 found.1 in
        let own = about found.0 told_one.1 in
        any_member (is_of e a v) (facts h) found.0 told_one.0 (and_from (eqb found.0.e e && eqb found.0.a a) (value_eq found.0.v v)
        (and_from (eqb found.0.e e) (eqb found.0.a a) (eq-eqb found.0.e e own.0) (eq-eqb found.0.a a own.1)) found.2)

    back : list_any (is_of e a v) (facts h) ≡ true → list_any (λ d. value_eq d.v v) (facts_in Eavt passes h) ≡ true
    back some =
        let found = some_member (is_of e a v) (facts h) some in
        any_member (λ d. value_eq d.v v)
        (facts_in Eavt passes h) found.0 (((facts_in-rising h Eavt passes).members found.0).1 (found.1, all_of found.0 found.2))
        (and_parts (eqb found.0.e e && eqb found.0.a a) (value_eq found.0.v v) found.2).1

-- ---- the least holder

abbrev is_valued : ℕ → Value → Datom → Bool
is_valued a v d = eqb d.a a && value_eq d.v v

-- what a holder is among facts
abbrev IsHolder : List Datom → ℕ → Value → Option ℕ → Type 0
IsHolder ds a v None = (d : Datom) → Contains ds d → is_valued a v d ≡ true → ⊥
IsHolder ds a v (Some e) =
    ((d : Datom) × (Contains ds d × ((is_valued a v d ≡ true) × (d.e ≡ e))))
    × ((d : Datom) → Contains ds d → is_valued a v d ≡ true → e ≤ d.e)

holder_now : (d : Datom) (ds : List Datom) (a : ℕ) (v : Value) (rest : Option ℕ) → is_valued a v d ≡ true → IsHolder ds a v rest
    → IsHolder (d ∷ ds) a v (least d.e rest)
holder_now d ds a v None valued is = (
  (d, (contains_head d ds d refl, (valued, refl))),
  λ x there own. elim (contains-cons d ds x there) [
    | inl same ↦ subst (λ (z : Datom). d.e ≤ z.e) same (omega arith)
    | inr behind ↦ absurd (is x behind own)
  ],
)
holder_now d ds a v (Some f) valued is =
    elim (cases_lt f d.e) [
      | inl less ↦
          let P : ℕ → Type 0 = λ n. IsHolder (d ∷ ds) a v (Some n) in
          let low : f ≡ min d.e f = omega (arith, less) in
          subst P low (
            (is.0.0, (contains_tail d ds is.0.0 is.0.1.0, is.0.1.1)),
            λ x there own. elim (contains-cons d ds x there) [
              | inl same ↦ subst (λ (z : Datom). f ≤ z.e) same (omega (arith, less))
              | inr behind ↦ is.1 x behind own
            ],
          )
      | inr not_less ↦
          let P : ℕ → Type 0 = λ n. IsHolder (d ∷ ds) a v (Some n) in
          let low : d.e ≡ min d.e f = omega (arith, not_less) in
          subst P low (
            (d, (contains_head d ds d refl, (valued, refl))),
            λ x there own. elim (contains-cons d ds x there) [
              | inl same ↦ subst (λ (z : Datom). d.e ≤ z.e) same (omega arith)
              | inr behind ↦ let bound = is.1 x behind own in omega (arith, bound, not_less)
            ],
          )
    ]

holder_later : (d : Datom) (ds : List Datom) (a : ℕ) (v : Value) (rest : Option ℕ) → is_valued a v d ≡ false → IsHolder ds a v rest
    → IsHolder (d ∷ ds) a v rest
holder_later d ds a v None other is = λ x there own. elim (contains-cons d ds x there) [
  | inl same ↦ true≢false (sym (subst (λ (z : Datom). is_valued a v z ≡ true) (sym same) own) ∙ other)
  | inr behind ↦ is x behind own
]
holder_later d ds a v (Some e) other is = (
  (is.0.0, (contains_tail d ds is.0.0 is.0.1.0, is.0.1.1)),
  λ x there own. elim (contains-cons d ds x there) [
    | inl same ↦ absurd (true≢false (sym (subst (λ (z : Datom). is_valued a v z ≡ true) (sym same) own) ∙ other))
    | inr behind ↦ is.1 x behind own
  ],
)

holder_is : (ds : List Datom) (a : ℕ) (v : Value) → IsHolder ds a v (holder ds a v)
holder_is [] a v = λ d there own. contains_none d there
holder_is (d ∷ ds) a v =
    let P : Bool → Type 0 = λ b. IsHolder (d ∷ ds) a v (cond b (least d.e (holder ds a v)) (holder ds a v)) in
    elim (cases_Bool (is_valued a v d)) [
      | inl valued ↦ subst P (sym valued) (holder_now d ds a v (holder ds a v) valued (holder_is ds a v))
      | inr other ↦ subst P (sym other) (holder_later d ds a v (holder ds a v) other (holder_is ds a v))
    ]

-- two lists with the same facts of the value have one holder
record HasSame (a : ℕ) (v : Value) (ds es : List Datom) : Type 0 where
  forth : (d : Datom) → Contains ds d → is_valued a v d ≡ true → Contains es d
  back : (d : Datom) → Contains es d → is_valued a v d ≡ true → Contains ds d

one_holder : (ds es : List Datom) (a : ℕ) (v : Value) (x y : Option ℕ) → HasSame a v ds es → IsHolder ds a v x → IsHolder es a v y → x ≡ y
one_holder ds es a v None None same first second = refl
one_holder ds es a v None (Some e) same first second =
    absurd (first second.0.0 (same.back second.0.0 second.0.1.0 second.0.1.1.0) second.0.1.1.0)
one_holder ds es a v (Some e) None same first second =
    absurd (second first.0.0 (same.forth first.0.0 first.0.1.0 first.0.1.1.0) first.0.1.1.0)
one_holder ds es a v (Some e) (Some f) same first second =
    let low = first.1 second.0.0 (same.back second.0.0 second.0.1.0 second.0.1.1.0) second.0.1.1.0 in
    let high = second.1 first.0.0 (same.forth first.0.0 first.0.1.0 first.0.1.1.0) first.0.1.1.0 in
    let is_e = first.0.1.1.1 in
    let is_f = second.0.1.1.1 in
    let one : e ≡ f = omega (arith, low, high, is_e, is_f) in
    ap Some one

-- of an order's list the first fact with the value has the least entity
find_is : (order : Order) (ds : List Datom) (a : ℕ) (v : Value) → IsRising order ds
    → ((d : Datom) → Contains ds d → d.a ≡ a) → IsHolder ds a v (option_map (λ d. d.e) (find (λ d. value_eq d.v v) ds))
find_is order [] a v rising under = λ d there own. contains_none d there
find_is order (d ∷ ds) a v rising under =
    elim (cases_Bool (value_eq d.v v)) [
      | inl valued ↦
          let own : is_valued a v d ≡ true =
          and_from (eqb d.a a) (value_eq d.v v) (eq-eqb d.a a (under d (contains_head d ds d refl))) valued in
          let first : IsHolder (d ∷ ds) a v (Some d.e) = (
            (d, (contains_head d ds d refl, (own, refl))),
            λ x there is. elim (contains-cons d ds x there) [
              | inl same ↦ subst (λ (z : Datom). d.e ≤ z.e) same (omega arith)
              | inr behind ↦
                  entity_upto order d x (under d (contains_head d ds d refl) ∙ sym (under x there))
                  (value_eq-true d.v v valued ∙ sym (value_eq-true x.v v (and_parts (eqb x.a a) (value_eq x.v v) is).1))
                  (before_member order d ds x rising.0 behind)
            ],
          ) in
          rw valued first
      | inr other ↦
          rw other (holder_later d ds a v (option_map (λ x. x.e) (find (λ x. value_eq x.v v) ds)) (ap (λ b. eqb d.a a && b) other
          ∙ and_false_right (eqb d.a a)) (find_is order ds a v rising.1 (λ x there. under x (contains_tail d ds x there))))
    ]
  where
    and_false_right : (b : Bool) → (b && false) ≡ false
    and_false_right true = refl
    and_false_right false = refl

pub found_holder : (h : List Entry) (order : Order) (a : ℕ) (v : Value) (passes : Datom → Bool)
    → ((d : Datom) → passes d ≡ true → d.a ≡ a) → ((d : Datom) → is_valued a v d ≡ true → passes d ≡ true)
    → option_map (λ d. d.e) (find (λ d. value_eq d.v v) (facts_in order passes h)) ≡ holder (facts h) a v
found_holder h order a v passes under all_of =
    one_holder (facts_in order passes h) (facts h) a v _ _
    (record {
      forth = λ d there own. (((facts_in-rising h order passes).members d).0 there).0;
      back = λ d there own. ((facts_in-rising h order passes).members d).1 (there, all_of d own);
    })
    (find_is order (facts_in order passes h) a v (rising_from order (facts_in order passes h) (facts_in-rising h order passes).rising)
    (λ d there. under d (((facts_in-rising h order passes).members d).0 there).1))
    (holder_is (facts h) a v)
