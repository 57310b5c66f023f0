-- Laws 7 and 8 from what is looked at: additions, what they meet, and the attributes that come to promise more.
use Rattle.std.proofs.Common.{◌≡◌, ℕ, Bool, true, false, cond, not, ◌&&◌, ◌||◌, List, [], ◌∷◌, ◌++◌, length, map, min, refl, ap, sym, ◌∙◌}
use Rattle.std.proofs.Common.{subst, inl, inr, ◌⊎◌, eqb, leb, Option, Some, None}
use Rattle.std.specs.Prelude.{filter, Contains}
use Rattle.std.specs.List.{list_any, list_all}
use Rattle.std.specs.Option.{option_map_or}
use Rattle.std.specs.Ordering.{is_lt, nat_cmp}
use Rattle.std.specs.BTreeMap.{BTreeMap, get}
use Rattle.std.proofs.lemmas.Bool.{true≢false, and_parts, and_from, or_parts, or_from, not-true, eqb-true, eq-eqb, le-leb}
use Rattle.fb_values.specs.declared.facts.Datom.{Datom}
use Rattle.fb_values.specs.declared.facts.Entry.{Entry}
use Rattle.fb_values.specs.declared.facts.Value.{Value}
use Rattle.fb_values.specs.declared.indexes.Order.TheVariants.{Eavt}
use Rattle.fb_numbers.specs.Numbers.{ident, value_type, cardinality, unique, is_component, index}
use Rattle.fb_model.specs.History.{said}
use Rattle.fb_model.specs.Rising.{in_order}
use Rattle.fb_model.specs.Facts.{facts, is_of, value_eq, values_of, holds, holder, least}
use Rattle.fb_model.specs.Lawful.{IsLawful}
use Rattle.fb_model.specs.Laws.{keeps_one_value, keeps_one_holder, has_no_other_holder}
use Rattle.fb_model.specs.Schema.{Attribute, attribute_of, is_one, is_unique, is_about, SaysNothingOf}
use Rattle.fb_model.proofs.Members.{here, there, cases_of, none_of, member_passes, all_members, any_member, some_member, kept, keep}
use Rattle.fb_model.proofs.Members.{standing_added, are_of_other_triples, in_order_member}
use Rattle.fb_model.proofs.InOrder.{in_order_has}
use Rattle.fb_model.proofs.Triples.{value_eq-true, value_eq-refl, holds-facts}
use Rattle.fb_model.proofs.Untouched.{attribute_of-untouched}
use Rattle.fb_model.proofs.Invariants.{one_value, one_holder, or_true}
use Rattle.fb_model.proofs.KnownFacts.{holder-HasFact}
use Rattle.fb_schema.specs.Described.{SchemaStands, describes}
use Rattle.tx_after.specs.After.{after}
use Rattle.tx_after.specs.Promises.{gives_one_value, gives_one_holder}
use Rattle.tx_after.specs.Triples.{triple_cmp, triples_rise, is_unmentioned}
use Rattle.tx_after.proofs.Orders.{other_triple}
use Rattle.tx_after.proofs.WithChanges.{IsAfter, stays, comes, after_cases, is_in_after, one_of_added, apart-from_triples}
use Rattle.tx_after.proofs.Promising.{both_ways, HasOneValue, HasOneHolder, one_value-from_pairs, one_value-pairs, one_holder-from_pairs}
use Rattle.tx_after.proofs.Promising.{one_holder-pairs, short_values, two_values, two_holders}
use Rattle.tx_laws.specs.declared.altered.Altered.{Altered}
use Rattle.tx_laws.specs.Alterations.{is_described, altered, HasAltered}
use Rattle.tx_laws.specs.Additions.{is_single, is_sole, are_apart, are_alone, meets_value, meets_holder}
use Rattle.tx_laws.proofs.Altering.{one_stands, unique_stands}

-- ---- datoms that describe nothing of an entity

about_describes : (e k : ℕ) → (leb ident k && leb k index) ≡ true → (d : Datom) → is_about e k d ≡ true → (eqb d.e e && describes d) ≡ true
about_describes e k within d about =
    let parts = and_parts (eqb d.e e) (eqb d.a k) about in
    and_from _ _ parts.0 (subst (λ n. (leb ident n && leb n index) ≡ true) (sym (eqb-true d.a k parts.1)) within)

none_about : (e k : ℕ) → (leb ident k && leb k index) ≡ true → (ds : List Datom) → is_described e ds ≡ false
    → list_any (is_about e k) ds ≡ false
none_about e k within [] none = refl
none_about e k within (d ∷ ds) none =
    let parts = or_parts (eqb d.e e && describes d) (is_described e ds) none in
    or_from _ _ (go (is_about e k d) refl parts.0) (none_about e k within ds parts.1)
  where
    go : (b : Bool) → is_about e k d ≡ b → (eqb d.e e && describes d) ≡ false → is_about e k d ≡ false
    go false is apart = is
    go true is apart = absurd (true≢false (sym (about_describes e k within d is) ∙ apart))

pub says_nothing : (e : ℕ) (ds : List Datom) → is_described e ds ≡ false → SaysNothingOf e ds
says_nothing e ds none =
    record {
      ident_none = none_about e ident refl ds none;
      type_none = none_about e value_type refl ds none;
      cardinality_none = none_about e cardinality refl ds none;
      unique_none = none_about e unique refl ds none;
      component_none = none_about e is_component refl ds none;
      index_none = none_about e index refl ds none;
    }

-- ---- members of lists of values

any-map : (p : Value → Bool) (ds : List Datom) → list_any p (map (λ (d : Datom). d.v) ds) ≡ list_any (λ (d : Datom). p d.v) ds
any-map p [] = refl
any-map p (d ∷ ds) = ap (λ b. p d.v || b) (any-map p ds)

-- ---- additions told apart

pub apart-same : (test : Datom → Bool) (ds : List Datom) → are_apart test ds ≡ true → (x y : Datom) → Contains ds x → Contains ds y
    → test x ≡ true → test y ≡ true → x.e ≡ y.e → x.a ≡ y.a → x ≡ y
apart-same test [] apart x y x_in y_in x_is y_is e a = absurd (none_of x x_in)
apart-same test (d ∷ ds) apart x y x_in y_in x_is y_is e a =
    go (cases_of d x ds x_in) (cases_of d y ds y_in) (λ x_in y_in. apart-same test ds (and_parts _ _ apart).1 x y x_in y_in x_is y_is e a)
  where
    none : (z : Datom) → Contains ds z → test d ≡ true → test z ≡ true → d.e ≡ z.e → d.a ≡ z.a → ⊥
    none z z_in d_is z_is e a =
        true≢false (sym (and_from _ _ d_is (any_member (λ other. test other && (eqb other.e d.e && eqb other.a d.a)) ds z z_in
        (and_from _ _ z_is (and_from _ _ (eq-eqb z.e d.e (sym e)) (eq-eqb z.a d.a (sym a))))))
        ∙ not-true _ (and_parts _ _ apart).0)

    go : (d ≡ x) ⊎ Contains ds x → (d ≡ y) ⊎ Contains ds y → (Contains ds x → Contains ds y → x ≡ y) → x ≡ y
    go (inl x_first) (inl y_first) rest = sym x_first ∙ y_first
    go (inl x_first) (inr y_in) rest =
        absurd (none y y_in (ap test x_first ∙ x_is) y_is (ap (λ (z : Datom). z.e) x_first ∙ e) (ap (λ (z : Datom). z.a) x_first ∙ a))
    go (inr x_in) (inl y_first) rest =
        absurd
        (none x x_in (ap test y_first ∙ y_is) x_is (ap (λ (z : Datom). z.e) y_first ∙ sym e) (ap (λ (z : Datom). z.a) y_first ∙ sym a))
    go (inr x_in) (inr y_in) rest = rest x_in y_in

pub alone-same : (test : Datom → Bool) (ds : List Datom) → are_alone test ds ≡ true → (x y : Datom) → Contains ds x → Contains ds y
    → test x ≡ true → test y ≡ true → x.a ≡ y.a → x.v ≡ y.v → x ≡ y
alone-same test [] apart x y x_in y_in x_is y_is a v = absurd (none_of x x_in)
alone-same test (d ∷ ds) apart x y x_in y_in x_is y_is a v =
    go (cases_of d x ds x_in) (cases_of d y ds y_in) (λ x_in y_in. alone-same test ds (and_parts _ _ apart).1 x y x_in y_in x_is y_is a v)
  where
    none : (z : Datom) → Contains ds z → test d ≡ true → test z ≡ true → d.a ≡ z.a → d.v ≡ z.v → ⊥
    none z z_in d_is z_is a v =
        true≢false (sym (and_from _ _ d_is (any_member (λ other. test other && (eqb other.a d.a && value_eq other.v d.v)) ds z z_in
        (and_from _ _ z_is (and_from _ _ (eq-eqb z.a d.a (sym a)) (ap (λ w. value_eq z.v w) v ∙ value_eq-refl z.v)))))
        ∙ not-true _ (and_parts _ _ apart).0)

    go : (d ≡ x) ⊎ Contains ds x → (d ≡ y) ⊎ Contains ds y → (Contains ds x → Contains ds y → x ≡ y) → x ≡ y
    go (inl x_first) (inl y_first) rest = sym x_first ∙ y_first
    go (inl x_first) (inr y_in) rest =
        absurd (none y y_in (ap test x_first ∙ x_is) y_is (ap (λ (z : Datom). z.a) x_first ∙ a) (ap (λ (z : Datom). z.v) x_first ∙ v))
    go (inr x_in) (inl y_first) rest =
        absurd
        (none x x_in (ap test y_first ∙ y_is) x_is (ap (λ (z : Datom). z.a) y_first ∙ sym a) (ap (λ (z : Datom). z.v) y_first ∙ sym v))
    go (inr x_in) (inr y_in) rest = rest x_in y_in

-- additions of which any two that count are one are apart, where triples rise
pub same-apart : (test : Datom → Bool) (ds : List Datom) → triples_rise Eavt ds ≡ true
    → ((x y : Datom) → Contains ds x → Contains ds y → test x ≡ true → test y ≡ true → x.e ≡ y.e → x.a ≡ y.a → x.v ≡ y.v)
    → are_apart test ds ≡ true
same-apart test [] rising same = refl
same-apart test (d ∷ ds) rising same =
    and_from _ _ (go (test d && list_any (λ other. test other && (eqb other.e d.e && eqb other.a d.a)) ds) refl)
    (same-apart test ds (and_parts _ _ rising).1 (λ x y x_in y_in. same x y (there d x ds x_in) (there d y ds y_in)))
  where
    go : (b : Bool) → (test d && list_any (λ other. test other && (eqb other.e d.e && eqb other.a d.a)) ds) ≡ b → not b ≡ true
    go false is = refl
    go true is =
        let parts = and_parts _ _ is in
        let found = some_member (λ other. test other && (eqb other.e d.e && eqb other.a d.a)) ds parts.1 in
        let z = found.0 in
        let z_is = and_parts (test z) (eqb z.e d.e && eqb z.a d.a) found.2 in
        let numbers = and_parts (eqb z.e d.e) (eqb z.a d.a) z_is.1 in
        let e = sym (eqb-true z.e d.e numbers.0) in
        let a = sym (eqb-true z.a d.a numbers.1) in
        let v = same d z (here d ds) (there d z ds found.1) parts.0 z_is.0 e a in
        absurd (true≢false (sym
        (and_from _ _ (and_from _ _ (eq-eqb z.e d.e (sym e)) (eq-eqb z.a d.a (sym a))) (ap (λ w. value_eq z.v w) v ∙ value_eq-refl z.v))
        ∙ other_triple Eavt d z (member_passes (λ y. is_lt (triple_cmp Eavt d y)) ds z (and_parts _ _ rising).0 found.1)))

pub same-alone : (test : Datom → Bool) (ds : List Datom) → triples_rise Eavt ds ≡ true
    → ((x y : Datom) → Contains ds x → Contains ds y → test x ≡ true → test y ≡ true → x.a ≡ y.a → x.v ≡ y.v → x.e ≡ y.e)
    → are_alone test ds ≡ true
same-alone test [] rising same = refl
same-alone test (d ∷ ds) rising same =
    and_from _ _ (go (test d && list_any (λ other. test other && (eqb other.a d.a && value_eq other.v d.v)) ds) refl)
    (same-alone test ds (and_parts _ _ rising).1 (λ x y x_in y_in. same x y (there d x ds x_in) (there d y ds y_in)))
  where
    go : (b : Bool) → (test d && list_any (λ other. test other && (eqb other.a d.a && value_eq other.v d.v)) ds) ≡ b → not b ≡ true
    go false is = refl
    go true is =
        let parts = and_parts _ _ is in
        let found = some_member (λ other. test other && (eqb other.a d.a && value_eq other.v d.v)) ds parts.1 in
        let z = found.0 in
        let z_is = and_parts (test z) (eqb z.a d.a && value_eq z.v d.v) found.2 in
        let content = and_parts (eqb z.a d.a) (value_eq z.v d.v) z_is.1 in
        let a = sym (eqb-true z.a d.a content.0) in
        let v = sym (value_eq-true z.v d.v content.1) in
        let e = same d z (here d ds) (there d z ds found.1) parts.0 z_is.0 a v in
        absurd (true≢false (sym
        (and_from _ _ (and_from _ _ (eq-eqb z.e d.e (sym e)) (eq-eqb z.a d.a (sym a))) (ap (λ w. value_eq z.v w) v ∙ value_eq-refl z.v))
        ∙ other_triple Eavt d z (member_passes (λ y. is_lt (triple_cmp Eavt d y)) ds z (and_parts _ _ rising).0 found.1)))

-- ---- a value that is held has a holder

is_some_holder : (facts : List Datom) (d : Datom) → Contains facts d → (e : ℕ) × (holder facts d.a d.v ≡ Some e)
is_some_holder [] d member = absurd (none_of d member)
is_some_holder (x ∷ facts) d member =
    go (eqb x.a d.a && value_eq x.v d.v) refl (cases_of x d facts member) (λ later. is_some_holder facts d later)
    (holder facts d.a d.v) refl
  where
    go : (b : Bool) → (eqb x.a d.a && value_eq x.v d.v) ≡ b → (x ≡ d) ⊎ Contains facts d
        → (Contains facts d → (e : ℕ) × (holder facts d.a d.v ≡ Some e)) → (o : Option ℕ) → holder facts d.a d.v ≡ o
        → (e : ℕ) × (cond (eqb x.a d.a && value_eq x.v d.v) (least x.e (holder facts d.a d.v)) (holder facts d.a d.v) ≡ Some e)
    go true is which next None o_is =
        (x.e, ap (λ b. cond b (least x.e (holder facts d.a d.v)) (holder facts d.a d.v)) is ∙ ap (least x.e) o_is)
    go true is which next (Some o) o_is =
        (min x.e o, ap (λ b. cond b (least x.e (holder facts d.a d.v)) (holder facts d.a d.v)) is ∙ ap (least x.e) o_is)
    go false is (inl same) next o o_is =
        absurd (true≢false (sym (and_from _ _ (eq-eqb x.a d.a (ap (λ (z : Datom). z.a) same))
        (ap (λ (z : Datom). value_eq z.v d.v) same ∙ value_eq-refl d.v)) ∙ is))
    go false is (inr later) next o o_is =
        let rest = next later in (rest.0, ap (λ b. cond b (least x.e (holder facts d.a d.v)) (holder facts d.a d.v)) is ∙ rest.1)

-- ---- the two laws

module _ (h : List Entry) (ds schema : List Datom) (altered_ones : BTreeMap ℕ Altered) (lawful : IsLawful h)
    (stands : SchemaStands schema h) (rising : triples_rise Eavt ds ≡ true) (has : HasAltered altered_ones (facts h) (after h ds) ds) where
  apart : are_of_other_triples ds ≡ true
  apart = apart-from_triples Eavt ds rising

  -- an attribute of which nothing is said is what it was
  unsaid : (a : ℕ) → is_described a ds ≡ false → attribute_of (after h ds) a ≡ attribute_of (facts h) a
  unsaid a none = attribute_of-untouched (said h) ds a (says_nothing a ds none)

  unsaid_one : (a : ℕ) → is_described a ds ≡ false → is_one (after h ds) a ≡ is_one (facts h) a
  unsaid_one a none = ap (λ o. option_map_or (λ (attribute : Attribute). not attribute.many) o false) (unsaid a none)

  unsaid_unique : (a : ℕ) → is_described a ds ≡ false → is_unique (after h ds) a ≡ is_unique (facts h) a
  unsaid_unique a none = ap (λ o. option_map_or (λ (attribute : Attribute). not (eqb attribute.uniqueness 0)) o false) (unsaid a none)

  -- what the map says
  said_of : (f : Altered → Bool) (a : ℕ) (b : Bool) → is_described a ds ≡ b
      → option_map_or f (get nat_cmp altered_ones a) true ≡ cond b (f (altered (facts h) (after h ds) a)) true
  said_of f a true is = ap (λ o. option_map_or f o true) (has a ∙ ap (λ b. cond b (Some (altered (facts h) (after h ds) a)) None) is)
  said_of f a false is = ap (λ o. option_map_or f o true) (has a ∙ ap (λ b. cond b (Some (altered (facts h) (after h ds) a)) None) is)

  -- which additions count
  pub single_is : (d : Datom) → is_single schema altered_ones d ≡ (d.added && (is_one (facts h) d.a && is_one (after h ds) d.a))
  single_is d =
      ap (λ b. d.added && b) (ap (λ b. b && option_map_or (λ (a : Altered). a.one) (get nat_cmp altered_ones d.a) true)
      (one_stands schema h d.a stands) ∙ go (is_one (facts h) d.a) refl (is_described d.a ds) refl)
    where
      go : (b : Bool) → is_one (facts h) d.a ≡ b → (c : Bool) → is_described d.a ds ≡ c
          → (b && option_map_or (λ (a : Altered). a.one) (get nat_cmp altered_ones d.a) true) ≡ (b && is_one (after h ds) d.a)
      go false is c described = refl
      go true is true described = said_of (λ a. a.one) d.a true described
      go true is false described = said_of (λ a. a.one) d.a false described ∙ sym (unsaid_one d.a described ∙ is)

  pub sole_is : (d : Datom) → is_sole schema altered_ones d ≡ (d.added && (is_unique (facts h) d.a && is_unique (after h ds) d.a))
  sole_is d =
      ap (λ b. d.added && b) (ap (λ b. b && option_map_or (λ (a : Altered). a.unique) (get nat_cmp altered_ones d.a) true)
      (unique_stands schema h d.a stands) ∙ go (is_unique (facts h) d.a) refl (is_described d.a ds) refl)
    where
      go : (b : Bool) → is_unique (facts h) d.a ≡ b → (c : Bool) → is_described d.a ds ≡ c
          → (b && option_map_or (λ (a : Altered). a.unique) (get nat_cmp altered_ones d.a) true) ≡ (b && is_unique (after h ds) d.a)
      go false is c described = refl
      go true is true described = said_of (λ a. a.unique) d.a true described
      go true is false described = said_of (λ a. a.unique) d.a false described ∙ sym (unsaid_unique d.a described ∙ is)

  record Counts (p q : Bool) (d : Datom) : Type 0 where
    added : d.added ≡ true
    before : p ≡ true
    after : q ≡ true

  counts_from : (p q : Bool) (d : Datom) → (d.added && (p && q)) ≡ true → Counts p q d
  counts_from p q d is =
      let first = and_parts _ _ is in let rest = and_parts _ _ first.1 in record { added = first.0; before = rest.0; after = rest.1 }

  added_in : (d : Datom) → Contains ds d → d.added ≡ true → Contains (after h ds) d
  added_in d member added = is_in_after h ds apart d (comes member added)

  fact_in : (d : Datom) → Contains (facts h) d → is_unmentioned ds d ≡ true → Contains (after h ds) d
  fact_in d member untold = is_in_after h ds apart d (stays member untold)

  holds_fact : (d : Datom) → Contains (facts h) d → holds h d.e d.a d.v ≡ true
  holds_fact d member =
      holds-facts h d.e d.a d.v
      ∙ any_member (is_of d.e d.a d.v) (facts h) d member
      (and_from _ _ (and_from _ _ (eq-eqb d.e d.e refl) (eq-eqb d.a d.a refl)) (value_eq-refl d.v))

  own : (d : Datom) → is_of d.e d.a d.v d ≡ true
  own d = and_from _ _ (and_from _ _ (eq-eqb d.e d.e refl) (eq-eqb d.a d.a refl)) (value_eq-refl d.v)

  -- ---- 7

  one_pairs : keeps_one_value (after h ds) ≡ true → (a : ℕ) → is_one (after h ds) a ≡ true → HasOneValue (after h ds) a
  one_pairs keeps a one =
      record {
        same = λ x y x_in y_in x_a y_a e. two_values (after h ds) x y x_in y_in e (x_a ∙ sym y_a)
            (or_true _ _ (ap (is_one (after h ds)) x_a ∙ one) (member_passes
            (λ d. not (is_one (after h ds) d.a) || leb (length (values_of (after h ds) d.e d.a)) 1) (after h ds) x keeps x_in));
      }

  pairs_one : ((a : ℕ) → is_one (after h ds) a ≡ true → HasOneValue (after h ds) a) → keeps_one_value (after h ds) ≡ true
  pairs_one pairs =
      all_members (λ d. not (is_one (after h ds) d.a) || leb (length (values_of (after h ds) d.e d.a)) 1) (after h ds)
      (λ d member. at d (is_one (after h ds) d.a) refl)
    where
      at : (d : Datom) (b : Bool) → is_one (after h ds) d.a ≡ b → (not b || leb (length (values_of (after h ds) d.e d.a)) 1) ≡ true
      at d false is = refl
      at d true is =
          le-leb _ _ (short_values d.e d.a (said h ++ ds) (λ x y x_in y_in x_about y_about.
          let xs = and_parts _ _ x_about in
          let ys = and_parts _ _ y_about in
          (pairs d.a is).same x y x_in y_in (eqb-true x.a d.a xs.1) (eqb-true y.a d.a ys.1)
          (eqb-true x.e d.e xs.0 ∙ sym (eqb-true y.e d.e ys.0))))

  -- a value from before that stays is that of a fact
  meets_fact : (d : Datom) → meets_value h ds d ≡ true
      → (x : Datom) × Contains (facts h) x × (is_about d.e d.a x ≡ true) × (is_unmentioned ds x ≡ true)
  meets_fact d meets =
      let some = sym (any-map (λ v. not (list_any (is_of d.e d.a v) ds)) (in_order Eavt (filter (is_about d.e d.a) (facts h)))) ∙ meets in
      let x =
      some_member (λ (x : Datom). not (list_any (is_of d.e d.a x.v) ds)) (in_order Eavt (filter (is_about d.e d.a) (facts h))) some in
      let is = kept (is_about d.e d.a) (facts h) x.0 (in_order_member Eavt (filter (is_about d.e d.a) (facts h)) x.0 x.1) in
      let parts = and_parts _ _ is.passes in (
        x.0,
        is.member,
        is.passes,
        ap (λ n. not (list_any (is_of n x.0.a x.0.v) ds)) (eqb-true x.0.e d.e parts.0)
            ∙ ap (λ n. not (list_any (is_of d.e n x.0.v) ds)) (eqb-true x.0.a d.a parts.1)
            ∙ x.2,
      )

  fact_meets : (d x : Datom) → Contains (facts h) x → x.e ≡ d.e → x.a ≡ d.a → is_unmentioned ds x ≡ true → meets_value h ds d ≡ true
  fact_meets d x member e a untold =
      any-map (λ v. not (list_any (is_of d.e d.a v) ds)) (in_order Eavt (filter (is_about d.e d.a) (facts h)))
      ∙ any_member (λ (x : Datom). not (list_any (is_of d.e d.a x.v) ds)) (in_order Eavt (filter (is_about d.e d.a) (facts h))) x
      (in_order_has Eavt (filter (is_about d.e d.a) (facts h)) (one_of_added Eavt (filter (is_about d.e d.a) (facts h))
      (λ y y_in. standing_added (said h) y (kept (is_about d.e d.a) (facts h) y y_in).member)) x
      (keep (is_about d.e d.a) (facts h) x member (and_from _ _ (eq-eqb x.e d.e e) (eq-eqb x.a d.a a))))
      (ap (λ n. not (list_any (is_of n d.a x.v) ds)) (sym e) ∙ ap (λ n. not (list_any (is_of x.e n x.v) ds)) (sym a) ∙ untold)

  keeps-kept : keeps_one_value (after h ds) ≡ true
      → list_all (λ d. option_map_or (λ (a : Altered). a.keeps_values) (get nat_cmp altered_ones d.e) true) ds ≡ true
  keeps-kept keeps =
      all_members (λ d. option_map_or (λ (a : Altered). a.keeps_values) (get nat_cmp altered_ones d.e) true) ds
      (λ d member. at d.e (is_described d.e ds) refl)
    where
      gives : (e : ℕ) (b c : Bool) → is_one (facts h) e ≡ b → is_one (after h ds) e ≡ c
          → (b || not c || gives_one_value (after h ds) e) ≡ true
      gives e true c before now = refl
      gives e false false before now = refl
      gives e false true before now = one_value-from_pairs (said h ++ ds) e (one_pairs keeps e now)

      at : (e : ℕ) (b : Bool) → is_described e ds ≡ b
          → option_map_or (λ (a : Altered). a.keeps_values) (get nat_cmp altered_ones e) true ≡ true
      at e true described = said_of (λ a. a.keeps_values) e true described ∙ gives e (is_one (facts h) e) (is_one (after h ds) e) refl refl
      at e false described = said_of (λ a. a.keeps_values) e false described

  single_counts : (d : Datom) → is_single schema altered_ones d ≡ true → Counts (is_one (facts h) d.a) (is_one (after h ds) d.a) d
  single_counts d is = counts_from (is_one (facts h) d.a) (is_one (after h ds) d.a) d (sym (single_is d) ∙ is)

  keeps-apart : keeps_one_value (after h ds) ≡ true → are_apart (is_single schema altered_ones) ds ≡ true
  keeps-apart keeps =
      same-apart (is_single schema altered_ones) ds rising (λ x y x_in y_in x_is y_is e a.
      let xc = single_counts x x_is in
      let yc = single_counts y y_is in
      (one_pairs keeps x.a xc.after).same x y (added_in x x_in xc.added) (added_in y y_in yc.added) refl (sym a) e)

  keeps-meets : keeps_one_value (after h ds) ≡ true → list_all (λ d. not (is_single schema altered_ones d && meets_value h ds d)) ds ≡ true
  keeps-meets keeps =
      all_members (λ d. not (is_single schema altered_ones d && meets_value h ds d)) ds
      (λ d member. at d member (is_single schema altered_ones d && meets_value h ds d) refl)
    where
      at : (d : Datom) → Contains ds d → (b : Bool) → (is_single schema altered_ones d && meets_value h ds d) ≡ b → not b ≡ true
      at d member false is = refl
      at d member true is =
          let parts = and_parts _ _ is in
          let counts = single_counts d parts.0 in
          let x = meets_fact d parts.1 in
          let numbers = and_parts _ _ x.2 in
          let e = eqb-true x.0.e d.e numbers.0 in
          let a = eqb-true x.0.a d.a numbers.1 in
          let v = (one_pairs keeps d.a counts.after).same x.0 d (fact_in x.0 x.1 x.3) (added_in d member counts.added) a refl e in
          absurd (true≢false (sym (any_member (is_of x.0.e x.0.a x.0.v) ds d member (and_from _ _
          (and_from _ _ (eq-eqb d.e x.0.e (sym e)) (eq-eqb d.a x.0.a (sym a))) (ap (λ w. value_eq d.v w) v ∙ value_eq-refl d.v)))
          ∙ not-true _ x.3))

  kept-pairs : list_all (λ d. option_map_or (λ (a : Altered). a.keeps_values) (get nat_cmp altered_ones d.e) true) ds ≡ true
      → are_apart (is_single schema altered_ones) ds ≡ true
      → list_all (λ d. not (is_single schema altered_ones d && meets_value h ds d)) ds ≡ true → (a : ℕ) → is_one (after h ds) a ≡ true
      → HasOneValue (after h ds) a
  kept-pairs values others meets a one = go (is_one (facts h) a) refl (is_described a ds) refl
    where
      single : (x : Datom) → x.added ≡ true → x.a ≡ a → is_one (facts h) a ≡ true → is_single schema altered_ones x ≡ true
      single x added x_a before =
          single_is x ∙ and_from _ _ added (and_from _ _ (ap (is_one (facts h)) x_a ∙ before) (ap (is_one (after h ds)) x_a ∙ one))

      beside : (x y : Datom) → Contains ds x → x.added ≡ true → Contains (facts h) y → is_unmentioned ds y ≡ true → x.a ≡ a → y.a ≡ a
          → y.e ≡ x.e → is_one (facts h) a ≡ true → ⊥
      beside x y x_in added y_in untold x_a y_a e before =
          true≢false (sym (and_from _ _ (single x added x_a before) (fact_meets x y y_in e (y_a ∙ sym x_a) untold))
          ∙ not-true _ (member_passes (λ d. not (is_single schema altered_ones d && meets_value h ds d)) ds x meets x_in))

      pair : is_one (facts h) a ≡ true → (x y : Datom) → IsAfter h ds apart x → IsAfter h ds apart y → x.a ≡ a → y.a ≡ a → x.e ≡ y.e
          → x.v ≡ y.v
      pair before x y (stays x_in x_untold) (stays y_in y_untold) x_a y_a e =
          one_value h x.e x.a x.v y.v lawful (ap (is_one (facts h)) x_a ∙ before) (holds_fact x x_in)
          (ap (λ n. holds h n x.a y.v) e ∙ ap (λ n. holds h y.e n y.v) (x_a ∙ sym y_a) ∙ holds_fact y y_in)
      pair before x y (comes x_in x_added) (comes y_in y_added) x_a y_a e =
          ap (λ (d : Datom). d.v) (apart-same (is_single schema altered_ones) ds others x y x_in y_in (single x x_added x_a before)
          (single y y_added y_a before) e (x_a ∙ sym y_a))
      pair before x y (comes x_in x_added) (stays y_in y_untold) x_a y_a e =
          absurd (beside x y x_in x_added y_in y_untold x_a y_a (sym e) before)
      pair before x y (stays x_in x_untold) (comes y_in y_added) x_a y_a e = absurd (beside y x y_in y_added x_in x_untold y_a x_a e before)

      go : (b : Bool) → is_one (facts h) a ≡ b → (c : Bool) → is_described a ds ≡ c → HasOneValue (after h ds) a
      go true before c described =
          record {
            same = λ x y x_in y_in x_a y_a e. pair before x y (after_cases h ds apart x x_in) (after_cases h ds apart y y_in) x_a y_a e;
          }
      go false before false described = absurd (true≢false (sym one ∙ unsaid_one a described ∙ before))
      go false before true described =
          let d = some_member (λ d. eqb d.e a && describes d) ds described in
          let e = eqb-true d.0.e a (and_parts _ _ d.2).0 in
          let keeps =
          sym (said_of (λ x. x.keeps_values) a true described)
          ∙ ap (λ n. option_map_or (λ (x : Altered). x.keeps_values) (get nat_cmp altered_ones n) true) (sym e)
          ∙ member_passes (λ d. option_map_or (λ (x : Altered). x.keeps_values) (get nat_cmp altered_ones d.e) true) ds d.0 values d.1 in
          one_value-pairs (after h ds) a (sym (ap (λ b. b || not (is_one (after h ds) a) || gives_one_value (after h ds) a) before
          ∙ ap (λ b. not b || gives_one_value (after h ds) a) one) ∙ keeps)

  pub seven : (list_all (λ d. option_map_or (λ (a : Altered). a.keeps_values) (get nat_cmp altered_ones d.e) true) ds
      && (are_apart (is_single schema altered_ones) ds && list_all (λ d. not (is_single schema altered_ones d && meets_value h ds d)) ds))
      ≡ keeps_one_value (after h ds)
  seven =
      both_ways _ _
      (λ all. let first = and_parts _ _ all in let rest = and_parts _ _ first.1 in pairs_one (kept-pairs first.0 rest.0 rest.1))
      (λ keeps. and_from _ _ (keeps-kept keeps) (and_from _ _ (keeps-apart keeps) (keeps-meets keeps)))

  pub seven-values : list_all (λ d. option_map_or (λ (a : Altered). a.keeps_values) (get nat_cmp altered_ones d.e) true) ds ≡ false
      → false ≡ keeps_one_value (after h ds)
  seven-values none =
      sym (ap (λ b. b && (are_apart (is_single schema altered_ones) ds
      && list_all (λ d. not (is_single schema altered_ones d && meets_value h ds d)) ds)) none)
      ∙ seven

  pub seven-apart : list_all (λ d. option_map_or (λ (a : Altered). a.keeps_values) (get nat_cmp altered_ones d.e) true) ds ≡ true
      → are_apart (is_single schema altered_ones) ds ≡ false → false ≡ keeps_one_value (after h ds)
  seven-apart values none =
      sym (ap (λ b. b && (are_apart (is_single schema altered_ones) ds
      && list_all (λ d. not (is_single schema altered_ones d && meets_value h ds d)) ds)) values
      ∙ ap (λ b. b && list_all (λ d. not (is_single schema altered_ones d && meets_value h ds d)) ds) none) ∙ seven

  pub seven-meets : list_all (λ d. option_map_or (λ (a : Altered). a.keeps_values) (get nat_cmp altered_ones d.e) true) ds ≡ true
      → are_apart (is_single schema altered_ones) ds ≡ true
      → list_all (λ d. not (is_single schema altered_ones d && meets_value h ds d)) ds ≡ keeps_one_value (after h ds)
  seven-meets values others =
      sym (ap (λ b. b && (are_apart (is_single schema altered_ones) ds
      && list_all (λ d. not (is_single schema altered_ones d && meets_value h ds d)) ds)) values
      ∙ ap (λ b. b && list_all (λ d. not (is_single schema altered_ones d && meets_value h ds d)) ds) others) ∙ seven

  -- ---- 8

  holder_pairs : keeps_one_holder (after h ds) ≡ true → (a : ℕ) → is_unique (after h ds) a ≡ true → HasOneHolder (after h ds) a
  holder_pairs keeps a one =
      record {
        same = λ x y x_in y_in x_a y_a v. two_holders (after h ds) x y y_in (x_a ∙ sym y_a) v
            (or_true _ _ (ap (is_unique (after h ds)) x_a ∙ one)
            (member_passes (λ d. not (is_unique (after h ds) d.a) || has_no_other_holder (after h ds) d) (after h ds) x keeps x_in));
      }

  pairs_holder : ((a : ℕ) → is_unique (after h ds) a ≡ true → HasOneHolder (after h ds) a) → keeps_one_holder (after h ds) ≡ true
  pairs_holder pairs =
      all_members (λ d. not (is_unique (after h ds) d.a) || has_no_other_holder (after h ds) d) (after h ds)
      (λ d member. at d member (is_unique (after h ds) d.a) refl)
    where
      at : (d : Datom) → Contains (after h ds) d → (b : Bool) → is_unique (after h ds) d.a ≡ b
          → (not b || has_no_other_holder (after h ds) d) ≡ true
      at d member false is = refl
      at d member true is =
          or_true _ _ (eq-eqb d.a d.a refl) (member_passes (λ x. not (eqb x.a d.a) || has_no_other_holder (after h ds) x) (after h ds) d
          (one_holder-from_pairs (after h ds) d.a (pairs d.a is)) member)

  sole_counts : (d : Datom) → is_sole schema altered_ones d ≡ true → Counts (is_unique (facts h) d.a) (is_unique (after h ds) d.a) d
  sole_counts d is = counts_from (is_unique (facts h) d.a) (is_unique (after h ds) d.a) d (sym (sole_is d) ∙ is)

  -- a holder from before that stays is that of a fact
  meets_held : (d : Datom) → meets_holder h ds d ≡ true
      → (x : Datom) × Contains (facts h) x × (x.a ≡ d.a) × (x.v ≡ d.v) × (is_unmentioned ds x ≡ true)
  meets_held d meets = go (holder (facts h) d.a d.v) refl meets
    where
      go : (o : Option ℕ) → holder (facts h) d.a d.v ≡ o → option_map_or (λ e. not (list_any (is_of e d.a d.v) ds)) o false ≡ true
          → (x : Datom) × Contains (facts h) x × (x.a ≡ d.a) × (x.v ≡ d.v) × (is_unmentioned ds x ≡ true)
      go None is untold = absurd (true≢false (sym untold))
      go (Some e) is untold =
          let x = holder-HasFact (facts h) e d.a d.v is in
          let a = eqb-true x.datom.a d.a x.a_is in
          let v = value_eq-true x.datom.v d.v x.v_is in (
            x.datom,
            x.member,
            a,
            v,
            ap (λ n. not (list_any (is_of n x.datom.a x.datom.v) ds)) x.e_is
                ∙ ap (λ n. not (list_any (is_of e n x.datom.v) ds)) a
                ∙ ap (λ w. not (list_any (is_of e d.a w) ds)) v
                ∙ untold,
          )

  held_meets : (d x : Datom) → is_unique (facts h) d.a ≡ true → Contains (facts h) x → x.a ≡ d.a → x.v ≡ d.v → is_unmentioned ds x ≡ true
      → meets_holder h ds d ≡ true
  held_meets d x one member a v untold =
      let found = is_some_holder (facts h) x member in
      let y = holder-HasFact (facts h) found.0 x.a x.v found.1 in
      let same_e : found.0 ≡ x.e = sym y.e_is ∙ one_holder h y.datom.e x.e x.a x.v lawful (ap (is_unique (facts h)) a ∙ one)
      (ap (λ n. holds h y.datom.e n x.v) (sym (eqb-true y.datom.a x.a y.a_is)) ∙ ap (λ w. holds h y.datom.e y.datom.a w)
      (sym (value_eq-true y.datom.v x.v y.v_is)) ∙ holds_fact y.datom y.member) (holds_fact x member) in
      ap (λ n. option_map_or (λ e. not (list_any (is_of e d.a d.v) ds)) (holder (facts h) n d.v) false) (sym a)
      ∙ ap (λ w. option_map_or (λ e. not (list_any (is_of e d.a d.v) ds)) (holder (facts h) x.a w) false) (sym v)
      ∙ ap (λ o. option_map_or (λ e. not (list_any (is_of e d.a d.v) ds)) o false) found.1
      ∙ ap (λ n. not (list_any (is_of n d.a d.v) ds)) same_e
      ∙ ap (λ n. not (list_any (is_of x.e n d.v) ds)) (sym a) ∙ ap (λ w. not (list_any (is_of x.e x.a w) ds)) (sym v)
      ∙ untold

  holder-kept : keeps_one_holder (after h ds) ≡ true
      → list_all (λ d. option_map_or (λ (a : Altered). a.keeps_holders) (get nat_cmp altered_ones d.e) true) ds ≡ true
  holder-kept keeps =
      all_members (λ d. option_map_or (λ (a : Altered). a.keeps_holders) (get nat_cmp altered_ones d.e) true) ds
      (λ d member. at d.e (is_described d.e ds) refl)
    where
      gives : (e : ℕ) (b c : Bool) → is_unique (facts h) e ≡ b → is_unique (after h ds) e ≡ c
          → (b || not c || gives_one_holder (after h ds) e) ≡ true
      gives e true c before now = refl
      gives e false false before now = refl
      gives e false true before now = one_holder-from_pairs (after h ds) e (holder_pairs keeps e now)

      at : (e : ℕ) (b : Bool) → is_described e ds ≡ b
          → option_map_or (λ (a : Altered). a.keeps_holders) (get nat_cmp altered_ones e) true ≡ true
      at e true described =
          said_of (λ a. a.keeps_holders) e true described ∙ gives e (is_unique (facts h) e) (is_unique (after h ds) e) refl refl
      at e false described = said_of (λ a. a.keeps_holders) e false described

  holder-alone : keeps_one_holder (after h ds) ≡ true → are_alone (is_sole schema altered_ones) ds ≡ true
  holder-alone keeps =
      same-alone (is_sole schema altered_ones) ds rising (λ x y x_in y_in x_is y_is a v.
      let xc = sole_counts x x_is in
      let yc = sole_counts y y_is in
      (holder_pairs keeps x.a xc.after).same x y (added_in x x_in xc.added) (added_in y y_in yc.added) refl (sym a) v)

  holder-meets : keeps_one_holder (after h ds) ≡ true → list_all (λ d. not (is_sole schema altered_ones d && meets_holder h ds d)) ds ≡ true
  holder-meets keeps =
      all_members (λ d. not (is_sole schema altered_ones d && meets_holder h ds d)) ds
      (λ d member. at d member (is_sole schema altered_ones d && meets_holder h ds d) refl)
    where
      at : (d : Datom) → Contains ds d → (b : Bool) → (is_sole schema altered_ones d && meets_holder h ds d) ≡ b → not b ≡ true
      at d member false is = refl
      at d member true is =
          let parts = and_parts _ _ is in
          let counts = sole_counts d parts.0 in
          let x = meets_held d parts.1 in
          let e = (holder_pairs keeps d.a counts.after).same x.0 d (fact_in x.0 x.1 x.4) (added_in d member counts.added) x.2 refl x.3 in
          absurd (true≢false (sym (any_member (is_of x.0.e x.0.a x.0.v) ds d member (and_from _ _
          (and_from _ _ (eq-eqb d.e x.0.e (sym e)) (eq-eqb d.a x.0.a (sym x.2))) (ap (λ w. value_eq d.v w) x.3 ∙ value_eq-refl d.v)))
          ∙ not-true _ x.4))

  held-pairs : list_all (λ d. option_map_or (λ (a : Altered). a.keeps_holders) (get nat_cmp altered_ones d.e) true) ds ≡ true
      → are_alone (is_sole schema altered_ones) ds ≡ true
      → list_all (λ d. not (is_sole schema altered_ones d && meets_holder h ds d)) ds ≡ true → (a : ℕ) → is_unique (after h ds) a ≡ true
      → HasOneHolder (after h ds) a
  held-pairs holders others meets a one = go (is_unique (facts h) a) refl (is_described a ds) refl
    where
      sole : (x : Datom) → x.added ≡ true → x.a ≡ a → is_unique (facts h) a ≡ true → is_sole schema altered_ones x ≡ true
      sole x added x_a before =
          sole_is x ∙ and_from _ _ added (and_from _ _ (ap (is_unique (facts h)) x_a ∙ before) (ap (is_unique (after h ds)) x_a ∙ one))

      beside : (x y : Datom) → Contains ds x → x.added ≡ true → Contains (facts h) y → is_unmentioned ds y ≡ true → x.a ≡ a → y.a ≡ a
          → y.v ≡ x.v → is_unique (facts h) a ≡ true → ⊥
      beside x y x_in added y_in untold x_a y_a v before =
          true≢false (sym
          (and_from _ _ (sole x added x_a before) (held_meets x y (ap (is_unique (facts h)) x_a ∙ before) y_in (y_a ∙ sym x_a) v untold))
          ∙ not-true _ (member_passes (λ d. not (is_sole schema altered_ones d && meets_holder h ds d)) ds x meets x_in))

      pair : is_unique (facts h) a ≡ true → (x y : Datom) → IsAfter h ds apart x → IsAfter h ds apart y → x.a ≡ a → y.a ≡ a → x.v ≡ y.v
          → x.e ≡ y.e
      pair before x y (stays x_in x_untold) (stays y_in y_untold) x_a y_a v =
          one_holder h x.e y.e x.a x.v lawful (ap (is_unique (facts h)) x_a ∙ before) (holds_fact x x_in)
          (ap (λ n. holds h y.e n x.v) (x_a ∙ sym y_a) ∙ ap (λ w. holds h y.e y.a w) v ∙ holds_fact y y_in)
      pair before x y (comes x_in x_added) (comes y_in y_added) x_a y_a v =
          ap (λ (d : Datom). d.e) (alone-same (is_sole schema altered_ones) ds others x y x_in y_in (sole x x_added x_a before)
          (sole y y_added y_a before) (x_a ∙ sym y_a) v)
      pair before x y (comes x_in x_added) (stays y_in y_untold) x_a y_a v =
          absurd (beside x y x_in x_added y_in y_untold x_a y_a (sym v) before)
      pair before x y (stays x_in x_untold) (comes y_in y_added) x_a y_a v = absurd (beside y x y_in y_added x_in x_untold y_a x_a v before)

      go : (b : Bool) → is_unique (facts h) a ≡ b → (c : Bool) → is_described a ds ≡ c → HasOneHolder (after h ds) a
      go true before c described =
          record {
            same = λ x y x_in y_in x_a y_a v. pair before x y (after_cases h ds apart x x_in) (after_cases h ds apart y y_in) x_a y_a v;
          }
      go false before false described = absurd (true≢false (sym one ∙ unsaid_unique a described ∙ before))
      go false before true described =
          let d = some_member (λ d. eqb d.e a && describes d) ds described in
          let e = eqb-true d.0.e a (and_parts _ _ d.2).0 in
          let keeps =
          sym (said_of (λ x. x.keeps_holders) a true described)
          ∙ ap (λ n. option_map_or (λ (x : Altered). x.keeps_holders) (get nat_cmp altered_ones n) true) (sym e)
          ∙ member_passes (λ d. option_map_or (λ (x : Altered). x.keeps_holders) (get nat_cmp altered_ones d.e) true) ds d.0 holders d.1 in
          one_holder-pairs (after h ds) a (sym (ap (λ b. b || not (is_unique (after h ds) a) || gives_one_holder (after h ds) a) before
          ∙ ap (λ b. not b || gives_one_holder (after h ds) a) one) ∙ keeps)

  pub eight : (list_all (λ d. option_map_or (λ (a : Altered). a.keeps_holders) (get nat_cmp altered_ones d.e) true) ds
      && (are_alone (is_sole schema altered_ones) ds && list_all (λ d. not (is_sole schema altered_ones d && meets_holder h ds d)) ds))
      ≡ keeps_one_holder (after h ds)
  eight =
      both_ways _ _
      (λ all. let first = and_parts _ _ all in let rest = and_parts _ _ first.1 in pairs_holder (held-pairs first.0 rest.0 rest.1))
      (λ keeps. and_from _ _ (holder-kept keeps) (and_from _ _ (holder-alone keeps) (holder-meets keeps)))

  pub eight-holders : list_all (λ d. option_map_or (λ (a : Altered). a.keeps_holders) (get nat_cmp altered_ones d.e) true) ds ≡ false
      → false ≡ keeps_one_holder (after h ds)
  eight-holders none =
      sym (ap (λ b. b && (are_alone (is_sole schema altered_ones) ds
      && list_all (λ d. not (is_sole schema altered_ones d && meets_holder h ds d)) ds)) none)
      ∙ eight

  pub eight-alone : list_all (λ d. option_map_or (λ (a : Altered). a.keeps_holders) (get nat_cmp altered_ones d.e) true) ds ≡ true
      → are_alone (is_sole schema altered_ones) ds ≡ false → false ≡ keeps_one_holder (after h ds)
  eight-alone holders none =
      sym (ap (λ b. b && (are_alone (is_sole schema altered_ones) ds
      && list_all (λ d. not (is_sole schema altered_ones d && meets_holder h ds d)) ds)) holders
      ∙ ap (λ b. b && list_all (λ d. not (is_sole schema altered_ones d && meets_holder h ds d)) ds) none) ∙ eight

  pub eight-meets : list_all (λ d. option_map_or (λ (a : Altered). a.keeps_holders) (get nat_cmp altered_ones d.e) true) ds ≡ true
      → are_alone (is_sole schema altered_ones) ds ≡ true
      → list_all (λ d. not (is_sole schema altered_ones d && meets_holder h ds d)) ds ≡ keeps_one_holder (after h ds)
  eight-meets holders others =
      sym (ap (λ b. b && (are_alone (is_sole schema altered_ones) ds
      && list_all (λ d. not (is_sole schema altered_ones d && meets_holder h ds d)) ds)) holders
      ∙ ap (λ b. b && list_all (λ d. not (is_sole schema altered_ones d && meets_holder h ds d)) ds) others) ∙ eight
