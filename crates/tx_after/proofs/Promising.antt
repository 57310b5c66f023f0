-- What an attribute promises of facts, told from its facts alone.
use Rattle.std.proofs.Common.{◌≡◌, ℕ, zero, suc, ◌<◌, ◌≤◌, Bool, true, false, cond, not, ◌&&◌, ◌||◌, List, [], ◌∷◌, ◌++◌, length, drop, map}
use Rattle.std.proofs.Common.{refl, ap, sym, ◌∙◌, subst, arith, inl, inr, ◌⊎◌, eqb, leb}
use Rattle.std.specs.Prelude.{filter, Contains}
use Rattle.std.specs.List.{list_any}
use Rattle.std.specs.Ordering.{is_lt, is_eq}
use Rattle.std.specs.BTreeSet.{BTreeSet, contains, Updates}
use Rattle.std.proofs.lemmas.Bool.{true≢false, and_parts, and_from, or_parts, not-true, eqb-true, eq-eqb, leb-true, le-leb}
use Rattle.fb_values.specs.declared.facts.Datom.{Datom}
use Rattle.fb_values.specs.declared.facts.Entry.{Entry}
use Rattle.fb_values.specs.declared.facts.Value.{Value}
use Rattle.fb_values.specs.Orders.{key_cmp, value_cmp}
use Rattle.fb_values.specs.declared.indexes.Order.TheVariants.{Aevt}
use Rattle.fb_values.specs.Rising.{rises}
use Rattle.fb_model.specs.History.{said}
use Rattle.fb_model.specs.Facts.{is_of, value_eq, values_of, standing}
use Rattle.fb_model.specs.Schema.{is_about}
use Rattle.fb_model.specs.Laws.{has_no_other_holder}
use Rattle.fb_model.proofs.Members.{here, there, cases_of, none_of, member_passes, all_members, any_member, some_member, IsKept, kept, keep}
use Rattle.fb_model.proofs.Members.{standing_added, standing-apart, are_of_other_triples, filter-standing, in_order_member, in_order-rises}
use Rattle.fb_model.proofs.InOrder.{in_order_has, first_is_least}
use Rattle.fb_model.proofs.Triples.{is_of-true, value_eq-true, value_eq-refl}
use Rattle.fb_model.proofs.Invariants.{values_of-is_of, only_value, or_true}
use Rattle.fb_facts.specs.FactLists.{is_under}
use Rattle.tx_after.specs.After.{after, facts_under}
use Rattle.tx_after.specs.Promises.{gives_one_value, gives_one_holder, are_of_other_entities, are_of_other_values, HasValues}
use Rattle.tx_after.specs.Places.{entities_rise}
use Rattle.tx_after.proofs.Orders.{AreApart, rest_rises, not_itself}
use Rattle.tx_after.proofs.Searching.{entity_first}
use Rattle.tx_after.proofs.WithChanges.{one_of_added, standing_apart}

-- ---- truths

pub both_ways : (b c : Bool) → (b ≡ true → c ≡ true) → (c ≡ true → b ≡ true) → b ≡ c
both_ways true true to back = refl
both_ways false false to back = refl
both_ways true false to back = absurd (true≢false (sym (to refl)))
both_ways false true to back = absurd (true≢false (sym (back refl)))

-- ---- pairs

-- two facts of an entity under the attribute have one value
pub record HasOneValue (ds : List Datom) (a : ℕ) : Type 0 where
  pub same : (x y : Datom) → Contains ds x → Contains ds y → x.a ≡ a → y.a ≡ a → x.e ≡ y.e → x.v ≡ y.v

-- two facts of a value under the attribute are of one entity
pub record HasOneHolder (ds : List Datom) (a : ℕ) : Type 0 where
  pub same : (x y : Datom) → Contains ds x → Contains ds y → x.a ≡ a → y.a ≡ a → x.v ≡ y.v → x.e ≡ y.e

about : (d : Datom) → is_about d.e d.a d ≡ true
about d = and_from _ _ (eq-eqb d.e d.e refl) (eq-eqb d.a d.a refl)

own : (d : Datom) → is_of d.e d.a d.v d ≡ true
own d = and_from _ _ (about d) (value_eq-refl d.v)

same_triple : (x y : Datom) → x.e ≡ y.e → x.a ≡ y.a → x.v ≡ y.v → is_of x.e x.a x.v y ≡ true
same_triple x y e a v =
    and_from _ _ (and_from _ _ (eq-eqb y.e x.e (sym e)) (eq-eqb y.a x.a (sym a))) (ap (λ w. value_eq y.v w) v ∙ value_eq-refl y.v)

-- at most one value where any two are equal
pub short_values : (e a : ℕ) (ds : List Datom)
    → ((x y : Datom) → Contains (standing ds) x → Contains (standing ds) y → is_about e a x ≡ true → is_about e a y ≡ true → x.v ≡ y.v)
    → length (values_of (standing ds) e a) ≤ 1
short_values e a ds same =
    subst (λ l. length (map (λ (d : Datom). d.v) l) ≤ 1) (sym (filter-standing (is_about e a) on ds))
    (few (standing (filter (is_about e a) ds)) (standing-apart (filter (is_about e a) ds)) (λ d member. from_filter d member))
  where
    on : (d other : Datom) → is_of d.e d.a d.v other ≡ true → is_about e a d ≡ is_about e a other
    on d other of = let is = is_of-true d.e d.a d.v other of in rw (is.e_is, is.a_is) refl

    from_filter : (d : Datom) → Contains (standing (filter (is_about e a) ds)) d → IsKept (is_about e a) (standing ds) d
    from_filter d member =
        kept (is_about e a) (standing ds) d (subst (λ l. Contains l d) (sym (filter-standing (is_about e a) on ds)) member)

    few : (l : List Datom) → are_of_other_triples l ≡ true
        → ((d : Datom) → Contains l d → IsKept (is_about e a) (standing ds) d) → length (map (λ (d : Datom). d.v) l) ≤ 1
    few [] apart from = omega arith
    few (x ∷ []) apart from = omega arith
    few (x ∷ y ∷ rest) apart from =
        let x_is = from x (here x (y ∷ rest)) in
        let y_is = from y (there x y (y ∷ rest) (here y rest)) in
        let xs = and_parts _ _ x_is.passes in
        let ys = and_parts _ _ y_is.passes in
        absurd (true≢false (sym (same_triple x y (eqb-true x.e e xs.0 ∙ sym (eqb-true y.e e ys.0))
        (eqb-true x.a a xs.1 ∙ sym (eqb-true y.a a ys.1)) (same x y x_is.member y_is.member x_is.passes y_is.passes))
        ∙ (or_parts _ _ (not-true _ (and_parts _ _ apart).0)).0))

pub one_value-from_pairs : (ds : List Datom) (a : ℕ) → HasOneValue (standing ds) a → gives_one_value (standing ds) a ≡ true
one_value-from_pairs ds a pairs =
    all_members (λ d. not (eqb d.a a) || leb (length (values_of (standing ds) d.e d.a)) 1) (standing ds) (λ d member. at d (eqb d.a a) refl)
  where
    at : (d : Datom) (b : Bool) → eqb d.a a ≡ b → (not b || leb (length (values_of (standing ds) d.e d.a)) 1) ≡ true
    at d false is = refl
    at d true is =
        le-leb _ _ (short_values d.e d.a ds (λ x y x_in y_in x_about y_about.
        let xs = and_parts _ _ x_about in
        let ys = and_parts _ _ y_about in
        pairs.same x y x_in y_in (eqb-true x.a d.a xs.1 ∙ eqb-true d.a a is) (eqb-true y.a d.a ys.1 ∙ eqb-true d.a a is)
        (eqb-true x.e d.e xs.0 ∙ sym (eqb-true y.e d.e ys.0))))

-- two values of an entity where it has one at most
pub two_values : (ds : List Datom) (x y : Datom) → Contains ds x → Contains ds y → x.e ≡ y.e → x.a ≡ y.a
    → leb (length (values_of ds x.e x.a)) 1 ≡ true → x.v ≡ y.v
two_values ds x y x_in y_in e a short =
    only_value (values_of ds x.e x.a) x.v y.v (leb-true _ _ short)
    (values_of-is_of ds x.e x.a x.v ∙ any_member (is_of x.e x.a x.v) ds x x_in (own x))
    (values_of-is_of ds x.e x.a y.v
    ∙ any_member (is_of x.e x.a y.v) ds y y_in
    (and_from _ _ (and_from _ _ (eq-eqb y.e x.e (sym e)) (eq-eqb y.a x.a (sym a))) (value_eq-refl y.v)))

pub one_value-pairs : (ds : List Datom) (a : ℕ) → gives_one_value ds a ≡ true → HasOneValue ds a
one_value-pairs ds a gives =
    record {
      same = λ x y x_in y_in x_a y_a e. two_values ds x y x_in y_in e (x_a ∙ sym y_a)
          (or_true _ _ (eq-eqb x.a a x_a) (member_passes (λ d. not (eqb d.a a) || leb (length (values_of ds d.e d.a)) 1) ds x gives x_in));
    }

pub one_holder-from_pairs : (ds : List Datom) (a : ℕ) → HasOneHolder ds a → gives_one_holder ds a ≡ true
one_holder-from_pairs ds a pairs =
    all_members (λ d. not (eqb d.a a) || has_no_other_holder ds d) ds (λ d member. at d member (eqb d.a a) refl)
  where
    other_is : (d other : Datom) → Contains ds d → Contains ds other → d.a ≡ a → (b : Bool) → (eqb other.a d.a && value_eq other.v d.v) ≡ b
        → (not b || eqb other.e d.e) ≡ true
    other_is d other d_in other_in d_a false is = refl
    other_is d other d_in other_in d_a true is =
        let parts = and_parts _ _ is in
        eq-eqb other.e d.e (pairs.same other d other_in d_in (eqb-true other.a d.a parts.0 ∙ d_a) d_a (value_eq-true other.v d.v parts.1))

    at : (d : Datom) → Contains ds d → (b : Bool) → eqb d.a a ≡ b → (not b || has_no_other_holder ds d) ≡ true
    at d member false is = refl
    at d member true is =
        all_members (λ other. not (eqb other.a d.a && value_eq other.v d.v) || eqb other.e d.e) ds
        (λ other other_in. other_is d other member other_in (eqb-true d.a a is) (eqb other.a d.a && value_eq other.v d.v) refl)

-- two holders of a value where it has one at most
pub two_holders : (ds : List Datom) (x y : Datom) → Contains ds y → x.a ≡ y.a → x.v ≡ y.v → has_no_other_holder ds x ≡ true → x.e ≡ y.e
two_holders ds x y y_in a v alone =
    sym (eqb-true y.e x.e (or_true _ _ (and_from _ _ (eq-eqb y.a x.a (sym a)) (ap (λ w. value_eq y.v w) v ∙ value_eq-refl y.v))
    (member_passes (λ other. not (eqb other.a x.a && value_eq other.v x.v) || eqb other.e x.e) ds y alone y_in)))

pub one_holder-pairs : (ds : List Datom) (a : ℕ) → gives_one_holder ds a ≡ true → HasOneHolder ds a
one_holder-pairs ds a gives =
    record {
      same = λ x y x_in y_in x_a y_a v. two_holders ds x y y_in (x_a ∙ sym y_a) v
          (or_true _ _ (eq-eqb x.a a x_a) (member_passes (λ d. not (eqb d.a a) || has_no_other_holder ds d) ds x gives x_in));
    }

-- ---- lists with no two alike

pub entities_drop : (n : ℕ) (ds : List Datom) → are_of_other_entities ds ≡ true → are_of_other_entities (drop n ds) ≡ true
entities_drop zero ds apart = apart
entities_drop (suc n) [] apart = refl
entities_drop (suc n) (d ∷ ds) apart = entities_drop n ds (and_parts _ _ apart).1

pub values_drop : (n : ℕ) (ds : List Datom) → are_of_other_values ds ≡ true → are_of_other_values (drop n ds) ≡ true
values_drop zero ds apart = apart
values_drop (suc n) [] apart = refl
values_drop (suc n) (d ∷ ds) apart = values_drop n ds (and_parts _ _ apart).1

-- what is found at a place is found in the whole list
pub not_entities : (n : ℕ) (ds : List Datom) → are_of_other_entities (drop n ds) ≡ false → false ≡ are_of_other_entities ds
not_entities n ds twice = go (are_of_other_entities ds) refl
  where
    go : (b : Bool) → are_of_other_entities ds ≡ b → false ≡ b
    go false is = refl
    go true is = absurd (true≢false (sym (entities_drop n ds is) ∙ twice))

pub not_values : (n : ℕ) (ds : List Datom) → are_of_other_values (drop n ds) ≡ false → false ≡ are_of_other_values ds
not_values n ds twice = go (are_of_other_values ds) refl
  where
    go : (b : Bool) → are_of_other_values ds ≡ b → false ≡ b
    go false is = refl
    go true is = absurd (true≢false (sym (values_drop n ds is) ∙ twice))

pub first_two : (x y : Datom) (ds : List Datom) → x.e ≡ y.e → are_of_other_entities (x ∷ y ∷ ds) ≡ false
first_two x y ds same =
    ap (λ b. not (b || list_any (λ other. eqb other.e x.e) ds) && are_of_other_entities (y ∷ ds)) (eq-eqb y.e x.e (sym same))

-- where entities do not fall, the next one decides
pub next_decides : (x y : Datom) (ds : List Datom) → entities_rise (x ∷ y ∷ ds) ≡ true → (x.e ≡ y.e → ⊥)
    → are_of_other_entities (y ∷ ds) ≡ true → are_of_other_entities (x ∷ y ∷ ds) ≡ true
next_decides x y ds rising apart rest = and_from _ _ (ap not (none (y ∷ ds) (λ d member. above d (cases_of y d ds member)))) rest
  where
    first : leb x.e y.e ≡ true
    first = (and_parts _ _ (and_parts _ _ rising).0).0

    above : (d : Datom) → (y ≡ d) ⊎ Contains ds d → x.e < d.e
    above d (inl is) = subst (λ z. x.e < z.e) is (omega (arith, leb-true x.e y.e first, apart))
    above d (inr member) = omega (
      arith,
      leb-true x.e y.e first,
      leb-true y.e d.e (member_passes (λ z. leb y.e z.e) ds d (and_parts _ _ (and_parts _ _ rising).1).0 member),
      apart,
    )

    none : (es : List Datom) → ((d : Datom) → Contains es d → x.e < d.e) → list_any (λ other. eqb other.e x.e) es ≡ false
    none es low = go (list_any (λ other. eqb other.e x.e) es) refl
      where
        go : (b : Bool) → list_any (λ other. eqb other.e x.e) es ≡ b → b ≡ false
        go false is = refl
        go true is =
            let found = some_member (λ other. eqb other.e x.e) es is in
            absurd (omega (arith, low found.0 found.1, eqb-true found.0.e x.e found.2))

pub rise_drop : (n : ℕ) (ds : List Datom) → entities_rise ds ≡ true → entities_rise (drop n ds) ≡ true
rise_drop zero ds rising = rising
rise_drop (suc n) [] rising = refl
rise_drop (suc n) (d ∷ ds) rising = rise_drop n ds (and_parts _ _ rising).1

pub single : (ds : List Datom) → length ds ≤ 1 → are_of_other_entities ds ≡ true
single [] short = refl
single (d ∷ []) short = refl
single (d ∷ x ∷ ds) short = absurd (omega arith)

-- ---- the facts of an attribute

module _ (h : List Entry) (changes : List Datom) (a : ℕ) where
  under_has : (d : Datom) → Contains (after h changes) d → d.a ≡ a → Contains (facts_under h changes a) d
  under_has d member is =
      in_order_has Aevt (filter (is_under a) (after h changes)) (one_of_added Aevt (filter (is_under a) (after h changes))
      (λ x x_in. standing_added (said h ++ changes) x (kept (is_under a) (after h changes) x x_in).member)) d
      (keep (is_under a) (after h changes) d member (eq-eqb d.a a is))

  under_is : (d : Datom) → Contains (facts_under h changes a) d → IsKept (is_under a) (after h changes) d
  under_is d member = kept (is_under a) (after h changes) d (in_order_member Aevt (filter (is_under a) (after h changes)) d member)

  under_a : (d : Datom) → Contains (facts_under h changes a) d → d.a ≡ a
  under_a d member = eqb-true d.a a (under_is d member).passes

  -- two facts of one triple in a rising list
  clash : (x y : Datom) (ds : List Datom) → rises Aevt (x ∷ ds) ≡ true → Contains ds y → x ≡ y → ⊥
  clash x y ds rising member same =
      not_itself Aevt x (subst (λ z. is_lt (key_cmp Aevt x z) ≡ true) (sym same) (first_is_least Aevt x ds y rising member))

  apart : AreApart (after h changes)
  apart = standing_apart (said h ++ changes)

  other_entities-pairs : are_of_other_entities (facts_under h changes a) ≡ true → HasOneValue (after h changes) a
  other_entities-pairs others = record {
    same =
        λ x y x_in y_in x_a y_a e.
        ap (λ (d : Datom). d.v) (alike (facts_under h changes a) others x y (under_has x x_in x_a) (under_has y y_in y_a) e);
  }
    where
      alike : (ds : List Datom) → are_of_other_entities ds ≡ true → (x y : Datom) → Contains ds x → Contains ds y → x.e ≡ y.e → x ≡ y
      alike [] others x y x_in y_in e = absurd (none_of x x_in)
      alike (d ∷ ds) others x y x_in y_in e =
          go (cases_of d x ds x_in) (cases_of d y ds y_in) (λ x_in y_in. alike ds (and_parts _ _ others).1 x y x_in y_in e)
        where
          none : (z : Datom) → Contains ds z → d.e ≡ z.e → ⊥
          none z z_in same =
              true≢false
              (sym (any_member (λ other. eqb other.e d.e) ds z z_in (eq-eqb z.e d.e (sym same))) ∙ not-true _ (and_parts _ _ others).0)

          go : (d ≡ x) ⊎ Contains ds x → (d ≡ y) ⊎ Contains ds y → (Contains ds x → Contains ds y → x ≡ y) → x ≡ y
          go (inl x_is) (inl y_is) rest = sym x_is ∙ y_is
          go (inl x_is) (inr y_in) rest = absurd (none y y_in (ap (λ (z : Datom). z.e) x_is ∙ e))
          go (inr x_in) (inl y_is) rest = absurd (none x x_in (ap (λ (z : Datom). z.e) y_is ∙ sym e))
          go (inr x_in) (inr y_in) rest = rest x_in y_in

  pairs-other_entities : HasOneValue (after h changes) a → are_of_other_entities (facts_under h changes a) ≡ true
  pairs-other_entities pairs =
      go (facts_under h changes a) (in_order-rises Aevt (filter (is_under a) (after h changes))) (λ d member. member)
    where
      go : (ds : List Datom) → rises Aevt ds ≡ true
          → ((d : Datom) → Contains ds d → Contains (facts_under h changes a) d) → are_of_other_entities ds ≡ true
      go [] rising within = refl
      go (d ∷ ds) rising within =
          and_from _ _ (ap not (none (list_any (λ other. eqb other.e d.e) ds) refl))
          (go ds (rest_rises Aevt d ds rising) (λ x member. within x (there d x ds member)))
        where
          none : (b : Bool) → list_any (λ other. eqb other.e d.e) ds ≡ b → b ≡ false
          none false is = refl
          none true is =
              let found = some_member (λ other. eqb other.e d.e) ds is in
              let d_in = within d (here d ds) in
              let o_in = within found.0 (there d found.0 ds found.1) in
              let e = sym (eqb-true found.0.e d.e found.2) in
              let v =
              pairs.same d found.0 (under_is d d_in).member (under_is found.0 o_in).member (under_a d d_in) (under_a found.0 o_in) e in
              absurd (clash d found.0 ds rising found.1 (apart.same d found.0 (under_is d d_in).member (under_is found.0 o_in).member
              (same_triple d found.0 e (under_a d d_in ∙ sym (under_a found.0 o_in)) v)))

  pub other_entities-is : are_of_other_entities (facts_under h changes a) ≡ gives_one_value (after h changes) a
  other_entities-is =
      both_ways _ _ (λ others. one_value-from_pairs (said h ++ changes) a (other_entities-pairs others))
      (λ gives. pairs-other_entities (one_value-pairs (after h changes) a gives))

  other_values-pairs : are_of_other_values (facts_under h changes a) ≡ true → HasOneHolder (after h changes) a
  other_values-pairs others = record {
    same =
        λ x y x_in y_in x_a y_a v.
        ap (λ (d : Datom). d.e) (alike (facts_under h changes a) others x y (under_has x x_in x_a) (under_has y y_in y_a) v);
  }
    where
      alike : (ds : List Datom) → are_of_other_values ds ≡ true → (x y : Datom) → Contains ds x → Contains ds y → x.v ≡ y.v → x ≡ y
      alike [] others x y x_in y_in v = absurd (none_of x x_in)
      alike (d ∷ ds) others x y x_in y_in v =
          go (cases_of d x ds x_in) (cases_of d y ds y_in) (λ x_in y_in. alike ds (and_parts _ _ others).1 x y x_in y_in v)
        where
          none : (z : Datom) → Contains ds z → d.v ≡ z.v → ⊥
          none z z_in same =
              true≢false (sym (any_member (λ other. value_eq other.v d.v) ds z z_in (ap (λ w. value_eq z.v w) same ∙ value_eq-refl z.v))
              ∙ not-true _ (and_parts _ _ others).0)

          go : (d ≡ x) ⊎ Contains ds x → (d ≡ y) ⊎ Contains ds y → (Contains ds x → Contains ds y → x ≡ y) → x ≡ y
          go (inl x_is) (inl y_is) rest = sym x_is ∙ y_is
          go (inl x_is) (inr y_in) rest = absurd (none y y_in (ap (λ (z : Datom). z.v) x_is ∙ v))
          go (inr x_in) (inl y_is) rest = absurd (none x x_in (ap (λ (z : Datom). z.v) y_is ∙ sym v))
          go (inr x_in) (inr y_in) rest = rest x_in y_in

  pairs-other_values : HasOneHolder (after h changes) a → are_of_other_values (facts_under h changes a) ≡ true
  pairs-other_values pairs = go (facts_under h changes a) (in_order-rises Aevt (filter (is_under a) (after h changes))) (λ d member. member)
    where
      go : (ds : List Datom) → rises Aevt ds ≡ true
          → ((d : Datom) → Contains ds d → Contains (facts_under h changes a) d) → are_of_other_values ds ≡ true
      go [] rising within = refl
      go (d ∷ ds) rising within =
          and_from _ _ (ap not (none (list_any (λ other. value_eq other.v d.v) ds) refl))
          (go ds (rest_rises Aevt d ds rising) (λ x member. within x (there d x ds member)))
        where
          none : (b : Bool) → list_any (λ other. value_eq other.v d.v) ds ≡ b → b ≡ false
          none false is = refl
          none true is =
              let found = some_member (λ other. value_eq other.v d.v) ds is in
              let d_in = within d (here d ds) in
              let o_in = within found.0 (there d found.0 ds found.1) in
              let v = sym (value_eq-true found.0.v d.v found.2) in
              let e =
              pairs.same d found.0 (under_is d d_in).member (under_is found.0 o_in).member (under_a d d_in) (under_a found.0 o_in) v in
              absurd (clash d found.0 ds rising found.1 (apart.same d found.0 (under_is d d_in).member (under_is found.0 o_in).member
              (same_triple d found.0 e (under_a d d_in ∙ sym (under_a found.0 o_in)) v)))

  pub other_values-is : are_of_other_values (facts_under h changes a) ≡ gives_one_holder (after h changes) a
  other_values-is =
      both_ways _ _ (λ others. one_holder-from_pairs (after h changes) a (other_values-pairs others))
      (λ gives. pairs-other_values (one_holder-pairs (after h changes) a gives))

  -- the entities of an attribute's facts do not fall
  pub under-rises : entities_rise (facts_under h changes a) ≡ true
  under-rises = go (facts_under h changes a) (in_order-rises Aevt (filter (is_under a) (after h changes))) (λ d member. under_a d member)
    where
      go : (ds : List Datom) → rises Aevt ds ≡ true → ((d : Datom) → Contains ds d → d.a ≡ a) → entities_rise ds ≡ true
      go [] rising under = refl
      go (d ∷ ds) rising under =
          and_from _ _ (all_members (λ y. leb d.e y.e) ds (λ y member.
          entity_first d y (under d (here d ds) ∙ sym (under y (there d y ds member))) (first_is_least Aevt d ds y rising member)))
          (go ds (rest_rises Aevt d ds rising) (λ x member. under x (there d x ds member)))

-- ---- the set of values

or-cond : (b c : Bool) → cond b true c ≡ (b || c)
or-cond true c = refl
or-cond false c = refl

pub HasValues-cons : (met new : BTreeSet Value) (d : Datom) (ds : List Datom) → Updates value_cmp met new d.v true → HasValues met ds
    → HasValues new (d ∷ ds)
HasValues-cons met new d ds updates has = λ v.
    updates.0 v ∙ or-cond (is_eq (value_cmp d.v v)) (contains value_cmp met v) ∙ ap (λ b. value_eq d.v v || b) (has v)
