-- The facts after a transaction that breaks no rule.
use Rattle.std.proofs.Common.{◌≡◌, ℕ, ◌+◌, ◌<◌, ◌≤◌, ℤ, Bool, true, false, cond, not, ◌&&◌, List, [], ◌∷◌, ◌++◌, length, map, refl, ap, sym}
use Rattle.std.proofs.Common.{◌∙◌, subst, arith, inl, inr, ◌⊎◌, eqb, Option, Some, None}
use Rattle.std.specs.Prelude.{Contains, filter, is_some, option_and_then, unwrap_or}
use Rattle.std.specs.List.{list_any}
use Rattle.std.specs.Option.{option_map_or}
use Rattle.std.specs.Ordering.{is_lt}
use Rattle.std.specs.declared.cmp.Ordering.TheVariants.{Equal}
use Rattle.std.proofs.lemmas.Bool.{true≢false, and_parts, and_from, or_parts, eqb-true, eq-eqb}
use Rattle.std.proofs.lemmas.List.Elements.{Contains-append_left, Contains-append_right, Contains-append_cases}
use Rattle.edn_model.specs.Form.{Form}
use Rattle.fb_values.specs.declared.facts.Datom.{Datom}
use Rattle.fb_values.specs.declared.facts.Entry.{Entry}
use Rattle.fb_values.specs.declared.indexes.Order.TheVariants.{Eavt}
use Rattle.fb_values.specs.Orders.{key_cmp, key_of, value_cmp}
use Rattle.fb_values.specs.OrderLaws.{value_cmp_total}
use Rattle.fb_values.specs.Rising.{rises}
use Rattle.std.specs.Cmp.{tied_itself}
use Rattle.std.specs.Cmp.Lexicographic.{slice_cmp, lists_total}
use Rattle.fb_numbers.specs.Numbers.{transaction_of, tx_instant, ident, value_type, cardinality, unique, is_component, index}
use Rattle.fb_numbers.specs.Numbers.{cardinality_many, greatest_t}
use Rattle.fb_model.specs.Rising.{in_order, put_in_order}
use Rattle.fb_model.specs.History.{basis, said}
use Rattle.fb_model.specs.Facts.{facts, standing, is_of, values_of, value_of, value_eq}
use Rattle.fb_model.specs.Schema.{Attribute, attribute_of, attribute_from, is_attribute, is_one, is_unique, is_whole, keyword_of, entity_of}
use Rattle.fb_model.specs.Schema.{truth_of, is_about, keyword_in, entity_in}
use Rattle.fb_model.specs.Laws.{facts_with, is_forbidden}
use Rattle.fb_model.specs.Lawful.{IsLawful}
use Rattle.fb_model.proofs.Triples.{is_of-true, standing-append, not_followed, value_eq-refl}
use Rattle.fb_model.proofs.Untouched.{IsOnTriples, filter-append, value_of-untouched}
use Rattle.fb_model.proofs.SchemaHistories.{none_about, fixed_forbidden, builtin_forbidden, builtin_stays}
use Rattle.fb_model.proofs.Members.{here, there, all_members, any_member, some_member, IsKept, kept, keep, standing_member, standing_added}
use Rattle.fb_model.proofs.Members.{standing-apart, standing_has, are_of_other_triples, filter-standing, filter-put, in_order-rises}
use Rattle.fb_model.proofs.InOrder.{first_is_least}
use Rattle.fb_model.proofs.Times.{same_keys}
use Rattle.fb_model.proofs.KnownFacts.{facts_installed}
use Rattle.fb_model.proofs.TextEntries.{unused_transaction}
use Rattle.tx_model.specs.Transaction.{joined, is_change, transaction, recorded}
use Rattle.tx_model.specs.Step.{entry_of}
use Rattle.tx_model.proofs.Refused.{NoneBroken}
use Rattle.tx_model.proofs.Recorded.{recorded_has, recorded_cases, instant_of, not_instant, not_forbidden, own_t_of, room_for_t}
use Rattle.tx_model.proofs.Known.{change_installed}

-- ---- lists

pub is_not : (b : Bool) → not b ≡ true → b ≡ false
is_not false e = refl
is_not true e = absurd (true≢false (sym e))

pub of_itself : (d : Datom) → is_of d.e d.a d.v d ≡ true
of_itself d = and_from _ _ (and_from _ _ (eq-eqb d.e d.e refl) (eq-eqb d.a d.a refl)) (value_eq-refl d.v)

same_test : (test : Datom → Bool) → IsOnTriples test → (d other : Datom) → is_of d.e d.a d.v other ≡ true → test d ≡ test other
same_test test on d other of = on.same d other of

about-IsOnTriples : (e a : ℕ) → IsOnTriples (is_about e a)
about-IsOnTriples e a = record { same = λ d other of. let same = is_of-true d.e d.a d.v other of in rw (same.e_is, same.a_is) refl }

-- datoms of one transaction that strictly rise are of different triples
apart_in_order : (t : ℕ) (ds : List Datom) → rises Eavt ds ≡ true → ((d : Datom) → Contains ds d → d.t ≡ t) → are_of_other_triples ds ≡ true
apart_in_order t [] rising own = refl
apart_in_order t (x ∷ ds) rising own =
    and_from _ _ (ap not (alone (list_any (is_of x.e x.a x.v) ds) refl))
    (apart_in_order t ds (rest x ds rising) (λ d member. own d (there x d ds member)))
  where
    rest : (x : Datom) (ds : List Datom) → rises Eavt (x ∷ ds) ≡ true → rises Eavt ds ≡ true
    rest x [] rising = refl
    rest x (y ∷ ds) rising = (and_parts _ _ rising).1

    alone : (b : Bool) → list_any (is_of x.e x.a x.v) ds ≡ b → b ≡ false
    alone false is = refl
    alone true is =
        let found = some_member (is_of x.e x.a x.v) ds is in
        let same = is_of-true x.e x.a x.v found.0 found.2 in
        absurd (true≢false (sym (first_is_least Eavt x ds found.0 rising found.1)
        ∙ ap is_lt (key_same x found.0 (sym same.e_is) (sym same.a_is) (sym same.v_is)
        (own x (here x ds) ∙ sym (own found.0 (there x found.0 ds found.1))))))
      where
        key_same : (x y : Datom) → x.e ≡ y.e → x.a ≡ y.a → x.v ≡ y.v → x.t ≡ y.t → key_cmp Eavt x y ≡ Equal
        key_same x y e a v t =
            subst (λ key. slice_cmp value_cmp (key_of Eavt x) key ≡ Equal) (same_keys Eavt x y (record { e = e; a = a; v = v; t = t }))
            (tied_itself (lists_total value_cmp_total) (key_of Eavt x))

-- at most one value where any two are equal
pub short_values : (e a : ℕ) (ds : List Datom)
    → ((x y : Datom) → Contains (standing ds) x → Contains (standing ds) y → is_about e a x ≡ true → is_about e a y ≡ true → x.v ≡ y.v)
    → length (values_of (standing ds) e a) ≤ 1
short_values e a ds same =
    subst (λ l. length (map (λ (d : Datom). d.v) l) ≤ 1)
    (sym (filter-standing (is_about e a) (same_test (is_about e a) (about-IsOnTriples e a)) ds))
    (few (standing (filter (is_about e a) ds)) (standing-apart (filter (is_about e a) ds)) (λ d member. from_filter d member))
  where
    from_filter : (d : Datom) → Contains (standing (filter (is_about e a) ds)) d → IsKept (is_about e a) (standing ds) d
    from_filter d member =
        kept (is_about e a) (standing ds) d
        (subst (λ l. Contains l d) (sym (filter-standing (is_about e a) (same_test (is_about e a) (about-IsOnTriples e a)) ds)) member)

    few : (l : List Datom) → are_of_other_triples l ≡ true
        → ((d : Datom) → Contains l d → IsKept (is_about e a) (standing ds) d) → length (map (λ (d : Datom). d.v) l) ≤ 1
    few [] apart from = omega arith
    few (x ∷ []) apart from = omega arith
    few (x ∷ y ∷ rest) apart from =
        let x_is = from x (here x (y ∷ rest)) in
        let y_is = from y (there x y (y ∷ rest) (here y rest)) in
        absurd (true≢false (sym (alike x y x_is.passes y_is.passes (same x y x_is.member y_is.member x_is.passes y_is.passes))
        ∙ (or_parts _ _ (is_not _ (and_parts _ _ apart).0)).0))
      where
        alike : (x y : Datom) → is_about e a x ≡ true → is_about e a y ≡ true → x.v ≡ y.v → is_of x.e x.a x.v y ≡ true
        alike x y x_about y_about v_is =
            let xs = and_parts _ _ x_about in
            let ys = and_parts _ _ y_about in
            and_from _ _ (and_from _ _ (eq-eqb y.e x.e (eqb-true y.e e ys.0 ∙ sym (eqb-true x.e e xs.0)))
            (eq-eqb y.a x.a (eqb-true y.a a ys.1 ∙ sym (eqb-true x.a a xs.1))))
            (ap (λ v. value_eq y.v v) v_is ∙ value_eq-refl y.v)

-- ---- cardinality and uniqueness are of a few facts

abbrev one_by : Option (List ℕ) → Option ℕ → Option ℕ → Bool
one_by (Some name) (Some kind) (Some count) = not (eqb count cardinality_many)
one_by name kind count = false

one_from : (e : ℕ) (name : Option (List ℕ)) (kind count uniqueness : Option ℕ) (component indexed : Bool)
    → option_map_or (λ (attribute : Attribute). not attribute.many) (attribute_from e name kind count uniqueness component indexed) false
    ≡ one_by name kind count
one_from e None kind count uniqueness component indexed = refl
one_from e (Some n) None count uniqueness component indexed = refl
one_from e (Some n) (Some k) None uniqueness component indexed = refl
one_from e (Some n) (Some k) (Some c) uniqueness component indexed = refl

abbrev unique_by : Option (List ℕ) → Option ℕ → Option ℕ → Option ℕ → Bool
unique_by (Some name) (Some kind) (Some count) uniqueness = not (eqb (unwrap_or uniqueness 0) 0)
unique_by name kind count uniqueness = false

unique_from : (e : ℕ) (name : Option (List ℕ)) (kind count uniqueness : Option ℕ) (component indexed : Bool)
    → option_map_or (λ (attribute : Attribute). not (eqb attribute.uniqueness 0))
    (attribute_from e name kind count uniqueness component indexed) false
    ≡ unique_by name kind count uniqueness
unique_from e None kind count uniqueness component indexed = refl
unique_from e (Some n) None count uniqueness component indexed = refl
unique_from e (Some n) (Some k) None uniqueness component indexed = refl
unique_from e (Some n) (Some k) (Some c) uniqueness component indexed = refl

is_one-by : (facts : List Datom) (a : ℕ)
    → is_one facts a ≡ one_by (option_and_then keyword_in (value_of facts a ident))
    (option_and_then entity_in (value_of facts a value_type)) (option_and_then entity_in (value_of facts a cardinality))
is_one-by facts a =
    one_from a (keyword_of facts a ident) (entity_of facts a value_type) (entity_of facts a cardinality) (entity_of facts a unique)
    (truth_of facts a is_component) (truth_of facts a index)

is_unique-by : (facts : List Datom) (a : ℕ)
    → is_unique facts a
    ≡ unique_by (option_and_then keyword_in (value_of facts a ident)) (option_and_then entity_in (value_of facts a value_type))
    (option_and_then entity_in (value_of facts a cardinality)) (option_and_then entity_in (value_of facts a unique))
is_unique-by facts a =
    unique_from a (keyword_of facts a ident) (entity_of facts a value_type) (entity_of facts a cardinality) (entity_of facts a unique)
    (truth_of facts a is_component) (truth_of facts a index)

and_false : (b : Bool) → (b && false) ≡ false
and_false false = refl
and_false true = refl

-- ---- the facts of the entry, and those of the changes alone

module _ (h : List Entry) (fs : List Form) (instant : ℤ) (lawful : IsLawful h) (none : NoneBroken (transaction h fs)) where
  changes_rise : rises Eavt (transaction h fs).changes ≡ true
  changes_rise =
      in_order-rises Eavt (filter (is_change (said h)) (joined (transaction h fs).added ++ joined (transaction h fs).retracted
      ++ joined (transaction h fs).swept ++ joined (transaction h fs).replaced))

  changes_in_order : in_order Eavt (transaction h fs).changes ≡ (transaction h fs).changes
  changes_in_order = again (transaction h fs).changes changes_rise
    where
      again : (ds : List Datom) → rises Eavt ds ≡ true → in_order Eavt ds ≡ ds
      again [] rising = refl
      again (x ∷ []) rising = refl
      again (x ∷ y ∷ ds) rising =
          let parts = and_parts (is_lt (key_cmp Eavt x y)) (rises Eavt (y ∷ ds)) rising in
          ap (put_in_order Eavt x) (again (y ∷ ds) parts.1)
          ∙ ap (λ b. cond b (x ∷ y ∷ ds) (cond (is_lt (key_cmp Eavt y x)) (y ∷ put_in_order Eavt x ds) (y ∷ ds))) parts.0

  -- what passes a test that the instant fails is the same in both
  same_filtered : (test : Datom → Bool) → IsOnTriples test → test (instant_of h fs lawful none instant) ≡ false
      → filter test (facts_with h (entry_of h (transaction h fs) instant)) ≡ filter test (transaction h fs).after
  same_filtered test on fails =
      filter-standing test (same_test test on) (said h ++ recorded (transaction h fs) instant)
      ∙ ap standing (filter-append test (said h) (recorded (transaction h fs) instant)
      ∙ ap (λ l. filter test (said h) ++ l) (filter-put test Eavt (instant_of h fs lawful none instant)
      (in_order Eavt (transaction h fs).changes) fails ∙ ap (filter test) changes_in_order)
      ∙ sym (filter-append test (said h) (transaction h fs).changes))
      ∙ sym (filter-standing test (same_test test on) (said h ++ (transaction h fs).changes))

  same_value : (e a : ℕ) → eqb tx_instant a ≡ false
      → value_of (facts_with h (entry_of h (transaction h fs) instant)) e a ≡ value_of (transaction h fs).after e a
  same_value e a other =
      rw (same_filtered (is_about e a) (about-IsOnTriples e a)
      (ap (λ b. eqb (transaction_of (basis h + 1)) e && b) other ∙ and_false (eqb (transaction_of (basis h + 1)) e))) refl

  pub same_attribute : (e : ℕ)
      → attribute_of (facts_with h (entry_of h (transaction h fs) instant)) e ≡ attribute_of (transaction h fs).after e
  same_attribute e =
      rw (
        same_value e ident refl,
        same_value e value_type refl,
        same_value e cardinality refl,
        same_value e unique refl,
        same_value e is_component refl,
        same_value e index refl,
      ) refl

  pub same_whole : (e : ℕ) → is_whole (facts_with h (entry_of h (transaction h fs) instant)) e ≡ is_whole (transaction h fs).after e
  same_whole e = rw (same_attribute e, same_value e cardinality refl) refl

  -- ---- members

  -- a fact before that no change is about, or an asserted change
  pub data IsAfter (d : Datom) : Type 0 where
    stays : Contains (facts h) d → not_followed (transaction h fs).changes d ≡ true → IsAfter d
    comes : Contains (transaction h fs).changes d → d.added ≡ true → IsAfter d

  fewer_follow : (d : Datom) → not_followed (recorded (transaction h fs) instant) d ≡ true
      → not_followed (transaction h fs).changes d ≡ true
  fewer_follow d alone = go (list_any (is_of d.e d.a d.v) (transaction h fs).changes) refl
    where
      go : (b : Bool) → list_any (is_of d.e d.a d.v) (transaction h fs).changes ≡ b → not b ≡ true
      go false is = refl
      go true is =
          let found = some_member (is_of d.e d.a d.v) (transaction h fs).changes is in
          absurd (true≢false (sym (any_member (is_of d.e d.a d.v) (recorded (transaction h fs) instant) found.0
          (recorded_has h fs lawful none instant found.0 found.1) found.2) ∙ is_not _ alone))

  pub after_cases : (d : Datom) → Contains (facts_with h (entry_of h (transaction h fs) instant)) d
      → (instant_of h fs lawful none instant ≡ d) ⊎ IsAfter d
  after_cases d member =
      elim (Contains-append_cases (filter (not_followed (recorded (transaction h fs) instant)) (facts h))
      (standing (recorded (transaction h fs) instant)) d
      (subst (λ l. Contains l d) (standing-append (said h) (recorded (transaction h fs) instant)) member)) [
        | inl old ↦
            (let is = kept (not_followed (recorded (transaction h fs) instant)) (facts h) d old in
            inr (stays is.member (fewer_follow d is.passes)))
        | inr new ↦
            by_record (standing_added (recorded (transaction h fs) instant) d new)
            (recorded_cases h fs lawful none instant d (standing_member (recorded (transaction h fs) instant) d new))
      ]
    where
      by_record : d.added ≡ true → (instant_of h fs lawful none instant ≡ d) ⊎ Contains (transaction h fs).changes d
          → (instant_of h fs lawful none instant ≡ d) ⊎ IsAfter d
      by_record added (inl is) = inl is
      by_record added (inr change) = inr (comes change added)

  pub is_in_after : (d : Datom) → IsAfter d → Contains (transaction h fs).after d
  is_in_after d (stays member alone) =
      subst (λ l. Contains l d) (sym (standing-append (said h) (transaction h fs).changes))
      (Contains-append_left (filter (not_followed (transaction h fs).changes) (facts h)) (standing (transaction h fs).changes) d
      (keep (not_followed (transaction h fs).changes) (facts h) d member alone))
  is_in_after d (comes member added) =
      subst (λ l. Contains l d) (sym (standing-append (said h) (transaction h fs).changes))
      (Contains-append_right (filter (not_followed (transaction h fs).changes) (facts h)) (standing (transaction h fs).changes) d
      (standing_has (transaction h fs).changes d
      (apart_in_order (basis h + 1) (transaction h fs).changes changes_rise (own_t_of h fs lawful none)) member added))

  -- ---- attributes that are not altered

  none_of_change : (e a : ℕ)
      → ((d : Datom) → d.e ≡ e → d.a ≡ a → is_forbidden (facts h) d ≡ true) → list_any (is_about e a) (transaction h fs).changes ≡ false
  none_of_change e a forbidden =
      none_about (facts h) e a forbidden (transaction h fs).changes
      (all_members (λ d. not (is_forbidden (facts h) d)) (transaction h fs).changes
      (λ d member. ap not (not_forbidden h fs lawful none d member)))

  unchanged : (e a : ℕ) → list_any (is_about e a) (transaction h fs).changes ≡ false
      → value_of (transaction h fs).after e a ≡ value_of (facts h) e a
  unchanged e a none_is = value_of-untouched (said h) (transaction h fs).changes e a none_is

  pub one_before : (a : ℕ) → is_attribute (facts h) a ≡ true → list_any (is_about a cardinality) (transaction h fs).changes ≡ false
      → is_one (transaction h fs).after a ≡ is_one (facts h) a
  one_before a installed unaltered =
      is_one-by (transaction h fs).after a
      ∙ rw (
        unchanged a ident (none_of_change a ident (fixed_forbidden (facts h) a ident installed refl)),
        unchanged a value_type (none_of_change a value_type (fixed_forbidden (facts h) a value_type installed refl)),
        unchanged a cardinality unaltered,
      ) (sym (is_one-by (facts h) a))

  pub unique_before : (a : ℕ) → is_attribute (facts h) a ≡ true → list_any (is_about a cardinality) (transaction h fs).changes ≡ false
      → list_any (is_about a unique) (transaction h fs).changes ≡ false
      → is_unique (transaction h fs).after a ≡ is_unique (facts h) a
  unique_before a installed unaltered also =
      is_unique-by (transaction h fs).after a
      ∙ rw (
        unchanged a ident (none_of_change a ident (fixed_forbidden (facts h) a ident installed refl)),
        unchanged a value_type (none_of_change a value_type (fixed_forbidden (facts h) a value_type installed refl)),
        unchanged a cardinality unaltered,
        unchanged a unique also,
      ) (sym (is_unique-by (facts h) a))

  -- two entities may have one instant
  pub instants_not_unique : is_unique (transaction h fs).after tx_instant ≡ false
  instants_not_unique =
      unique_before tx_instant (ap is_some (builtin_stays tx_instant refl h lawful))
      (none_of_change tx_instant cardinality (builtin_forbidden (facts h) tx_instant cardinality refl refl))
      (none_of_change tx_instant unique (builtin_forbidden (facts h) tx_instant unique refl refl))
      ∙ ap (λ o. option_map_or (λ (attribute : Attribute). not (eqb attribute.uniqueness 0)) o false)
      (builtin_stays tx_instant refl h lawful)

  -- an after-fact is of an installed attribute
  pub after_installed : (d : Datom) → IsAfter d → is_attribute (facts h) d.a ≡ true
  after_installed d (stays member alone) = facts_installed h lawful d member
  after_installed d (comes member added) = change_installed h fs lawful none d member

  -- nothing else is said of the new transaction under the attribute of instants
  pub instant_alone : (d : Datom) → IsAfter d → d.e ≡ transaction_of (basis h + 1) → d.a ≡ tx_instant → ⊥
  instant_alone d (stays member alone) e_is a_is =
      true≢false (sym (any_member (λ x. eqb x.e (transaction_of (basis h + 1))) (said h) d (standing_member (said h) d member)
      (eq-eqb d.e (transaction_of (basis h + 1)) e_is))
      ∙ unused_transaction h lawful (room (room_for_t h fs lawful none)))
    where
      room : basis h + 1 ≤ greatest_t → basis h < greatest_t
      room below = omega (arith, below)
  instant_alone d (comes member added) e_is a_is = true≢false (sym (eq-eqb d.a tx_instant a_is) ∙ not_instant h fs lawful none d member)
