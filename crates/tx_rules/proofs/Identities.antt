-- In lawful histories no attribute that is unique has entities as its values.
use Rattle.std.proofs.Common.{◌≡◌, ℕ, Bool, true, false, not, ◌&&◌, ◌||◌, eqb, leb, List, [], ◌∷◌, refl, ap, sym, ◌∙◌, subst}
use Rattle.std.proofs.Common.{inl, inr, Option, Some, None}
use Rattle.std.specs.Prelude.{is_some, option_and_then}
use Rattle.std.specs.List.{list_any, list_all}
use Rattle.std.specs.Option.{option_map_or}
use Rattle.std.proofs.lemmas.Bool.{true≢false, and_parts, and_from, or_cases, or_parts, or_from, or_left, or_right, eqb-true, eq-eqb}
use Rattle.fb_values.specs.declared.facts.Datom.{Datom}
use Rattle.fb_values.specs.declared.facts.Entry.{Entry}
use Rattle.fb_values.specs.declared.facts.Value.{Value}
use Rattle.fb_values.specs.declared.facts.Value.TheVariants.{Ref}
use Rattle.fb_numbers.specs.Numbers.{ident, value_type, cardinality, unique, is_component, index, type_ref, unique_identity, unique_value}
use Rattle.fb_model.specs.FirstEntry.{first_entry}
use Rattle.fb_model.specs.History.{said}
use Rattle.fb_model.specs.Facts.{facts, holder, value_of}
use Rattle.fb_model.specs.Types.{is_of_type}
use Rattle.fb_model.specs.Schema.{Attribute, attribute_of, attribute_from, is_attribute, is_identity, is_about, SaysNothingOf}
use Rattle.fb_model.specs.Schema.{keyword_of, entity_of, entity_in, truth_of, is_whole, is_whole_attribute}
use Rattle.fb_model.specs.Laws.{facts_with, says_attribute, is_alteration, are_allowed}
use Rattle.fb_model.specs.Lawful.{IsLawful, IsLawfulAfter}
use Rattle.fb_model.proofs.Invariants.{of_lawful, facts-push, both_pass, or_true}
use Rattle.fb_model.proofs.Members.{member_passes, some_member}
use Rattle.fb_model.proofs.SchemaHistories.{none_about, fixed_forbidden}
use Rattle.fb_model.proofs.Untouched.{attribute_of-untouched}
use Rattle.fb_model.proofs.KnownFacts.{holder-HasFact, facts_typed}
use Rattle.tx_rules.proofs.Triples.{value_eq-true}

-- ---- unique attributes

abbrev keeps_apart : Attribute → Bool
keeps_apart attribute = eqb attribute.uniqueness 0 || not (eqb attribute.kind type_ref)

-- the entity is no attribute that is unique and has entities as its values
abbrev pub is_apart : List Datom → ℕ → Bool
is_apart ds e = option_map_or keeps_apart (attribute_of ds e) true

apart_part : (x none some apart y : Bool) → ((x && (none || (some && apart))) && y) ≡ true → (none || apart) ≡ true
apart_part true true some apart y is = refl
apart_part true false true apart y is = (and_parts apart y is).0
apart_part true false false apart y is = absurd (true≢false (sym is))
apart_part false none some apart y is = absurd (true≢false (sym is))

attribute-apart : (attribute : Attribute) → is_whole_attribute attribute ≡ true → keeps_apart attribute ≡ true
attribute-apart attribute is =
    apart_part _ (eqb attribute.uniqueness 0) (eqb attribute.uniqueness unique_identity || eqb attribute.uniqueness unique_value)
    (not (eqb attribute.kind type_ref)) (not attribute.component || eqb attribute.kind type_ref) is

whole-apart : (ds : List Datom) (e : ℕ) → is_whole ds e ≡ true → is_apart ds e ≡ true
whole-apart ds e whole = go (attribute_of ds e) (and_parts _ _ whole).0
  where
    go : (o : Option Attribute) → option_map_or is_whole_attribute o false ≡ true → option_map_or keeps_apart o true ≡ true
    go None is = refl
    go (Some attribute) is = attribute-apart attribute is

no_attribute-apart : (ds : List Datom) (e : ℕ) → is_attribute ds e ≡ false → is_apart ds e ≡ true
no_attribute-apart ds e none = go (attribute_of ds e) none
  where
    go : (o : Option Attribute) → is_some o ≡ false → option_map_or keeps_apart o true ≡ true
    go None is = refl
    go (Some attribute) is = absurd (true≢false is)

-- ---- an attribute has a fact of its type

value_step : (d : Datom) (ds : List Datom) (e a : ℕ) → is_about e a d ≡ false → value_of (d ∷ ds) e a ≡ value_of ds e a
value_step d ds e a none = rw none refl

value_fact : (ds : List Datom) (e a : ℕ) → is_some (value_of ds e a) ≡ true → list_any (is_about e a) ds ≡ true
value_fact [] e a some = absurd (true≢false (sym some))
value_fact (d ∷ ds) e a some = go (is_about e a d) refl (value_fact ds e a)
  where
    go : (b : Bool) → is_about e a d ≡ b → (is_some (value_of ds e a) ≡ true → list_any (is_about e a) ds ≡ true)
        → list_any (is_about e a) (d ∷ ds) ≡ true
    go true is rest = or_left _ _ is
    go false is rest = or_right _ _ (rest (sym (ap is_some (value_step d ds e a is)) ∙ some))

type_fact : (ds : List Datom) (e : ℕ) → is_attribute ds e ≡ true → list_any (is_about e value_type) ds ≡ true
type_fact ds e installed =
    value_fact ds e value_type (of_kind (value_of ds e value_type) (from_kind (keyword_of ds e ident) (entity_of ds e value_type)
    (entity_of ds e cardinality) (entity_of ds e unique) (truth_of ds e is_component) (truth_of ds e index) installed))
  where
    from_kind : (name : Option (List ℕ)) (kind count uniqueness : Option ℕ) (component indexed : Bool)
        → is_some (attribute_from e name kind count uniqueness component indexed) ≡ true → is_some kind ≡ true
    from_kind None kind count uniqueness component indexed is = absurd (true≢false (sym is))
    from_kind (Some name) None count uniqueness component indexed is = absurd (true≢false (sym is))
    from_kind (Some name) (Some kind) count uniqueness component indexed is = refl

    of_kind : (o : Option Value) → is_some (option_and_then entity_in o) ≡ true → is_some o ≡ true
    of_kind None is = absurd (true≢false (sym is))
    of_kind (Some v) is = refl

-- ---- the first entry

each_first : list_all (λ d. is_apart (facts (first_entry ∷ [])) d.e) (facts (first_entry ∷ [])) ≡ true
each_first = refl

first-apart : (e : ℕ) → is_apart (facts (first_entry ∷ [])) e ≡ true
first-apart e = go (is_attribute (facts (first_entry ∷ [])) e) refl
  where
    go : (b : Bool) → is_attribute (facts (first_entry ∷ [])) e ≡ b → is_apart (facts (first_entry ∷ [])) e ≡ true
    go false none = no_attribute-apart (facts (first_entry ∷ [])) e none
    go true installed =
        let found =
        some_member (is_about e value_type) (facts (first_entry ∷ [])) (type_fact (facts (first_entry ∷ [])) e installed) in
        subst (λ n. is_apart (facts (first_entry ∷ [])) n ≡ true) (eqb-true found.0.e e (and_parts _ _ found.2).0)
        (member_passes (λ d. is_apart (facts (first_entry ∷ [])) d.e) (facts (first_entry ∷ [])) found.0 each_first found.1)

-- ---- one entry more

about_altered : (e a : ℕ) → (eqb a cardinality || eqb a unique || eqb a index) ≡ true
    → (ds : List Datom) → list_any (λ d. is_alteration d && eqb d.e e) ds ≡ false → list_any (is_about e a) ds ≡ false
about_altered e a part [] none = refl
about_altered e a part (d ∷ ds) none =
    let parts = or_parts (is_alteration d && eqb d.e e) (list_any (λ d. is_alteration d && eqb d.e e) ds) none in
    or_from (is_about e a d) (list_any (is_about e a) ds) (go (is_about e a d) refl parts.0) (about_altered e a part ds parts.1)
  where
    go : (b : Bool) → is_about e a d ≡ b → (is_alteration d && eqb d.e e) ≡ false → is_about e a d ≡ false
    go false is apart = is
    go true is apart =
        let numbers = and_parts (eqb d.e e) (eqb d.a a) is in
        absurd (true≢false (sym (and_from (is_alteration d) (eqb d.e e)
        (subst (λ x. (eqb x cardinality || eqb x unique || eqb x index) ≡ true) (sym (eqb-true d.a a numbers.1)) part) numbers.0) ∙ apart))

unaltered : (before ds : List Datom) (e : ℕ) → is_attribute before e ≡ true → are_allowed before ds ≡ true
    → list_any (λ d. is_alteration d && eqb d.e e) ds ≡ false → SaysNothingOf e ds
unaltered before ds e installed allowed none =
    record {
      ident_none = none_about before e ident (fixed_forbidden before e ident installed refl) ds allowed;
      type_none = none_about before e value_type (fixed_forbidden before e value_type installed refl) ds allowed;
      cardinality_none = about_altered e cardinality refl ds none;
      unique_none = about_altered e unique refl ds none;
      component_none = none_about before e is_component (fixed_forbidden before e is_component installed refl) ds allowed;
      index_none = about_altered e index refl ds none;
    }

module _ (h : List Entry) (entry : Entry) (next : IsLawfulAfter h entry) (before : (e : ℕ) → is_apart (facts h) e ≡ true) where
  old-apart : (e : ℕ) → is_attribute (facts h) e ≡ true → is_apart (facts_with h entry) e ≡ true
  old-apart e installed = go (list_any (λ d. is_alteration d && eqb d.e e) entry.datoms) refl
    where
      go : (b : Bool) → list_any (λ d. is_alteration d && eqb d.e e) entry.datoms ≡ b → is_apart (facts_with h entry) e ≡ true
      go false none =
          ap (λ o. option_map_or keeps_apart o true)
          (attribute_of-untouched (said h) entry.datoms e (unaltered (facts h) entry.datoms e installed next.allowed_changes none))
          ∙ before e
      go true some =
          let found =
          both_pass (λ d. not (is_alteration d && is_attribute (facts h) d.e) || is_whole (facts_with h entry) d.e)
          (λ d. is_alteration d && eqb d.e e) entry.datoms (and_parts _ _ next.whole_attributes).1 some in
          let parts = and_parts (is_alteration found.element) (eqb found.element.e e) found.passes_q in
          let same = eqb-true found.element.e e parts.1 in
          subst (λ x. is_apart (facts_with h entry) x ≡ true) same (whole-apart (facts_with h entry) found.element.e
          (or_true _ _ (and_from _ _ parts.0 (subst (λ x. is_attribute (facts h) x ≡ true) (sym same) installed)) found.passes_p))

  new-apart : (e : ℕ) → is_attribute (facts h) e ≡ false → is_attribute (facts_with h entry) e ≡ true
      → is_apart (facts_with h entry) e ≡ true
  new-apart e none installed =
      let found = some_member (is_about e value_type) (facts_with h entry) (type_fact (facts_with h entry) e installed) in
      let parts = and_parts (eqb found.0.e e) (eqb found.0.a value_type) found.2 in
      let same = eqb-true found.0.e e parts.0 in
      let whole =
      member_passes (λ d. not (says_attribute d) || is_attribute (facts h) d.e || is_whole (facts_with h entry) d.e)
      (facts_with h entry) found.0 (and_parts _ _ next.whole_attributes).0 found.1 in
      subst (λ x. is_apart (facts_with h entry) x ≡ true) same (whole-apart (facts_with h entry) found.0.e
      (is_third (not (says_attribute found.0)) (is_attribute (facts h) found.0.e) (is_whole (facts_with h entry) found.0.e)
      (ap not (says found.0 (eqb-true found.0.a value_type parts.1)))
      (subst (λ x. is_attribute (facts h) x ≡ false) (sym same) none) whole))
    where
      says : (d : Datom) → d.a ≡ value_type → says_attribute d ≡ true
      says d is = subst (λ a. (leb value_type a && leb a index) ≡ true) (sym is) refl

      is_third : (x y z : Bool) → x ≡ false → y ≡ false → ((x || y) || z) ≡ true → z ≡ true
      is_third false false z x_is y_is some = some
      is_third false true z x_is y_is some = absurd (true≢false y_is)
      is_third true y z x_is y_is some = absurd (true≢false x_is)

  next-apart : (e : ℕ) → is_apart (facts_with h entry) e ≡ true
  next-apart e = go (is_attribute (facts h) e) (is_attribute (facts_with h entry) e) refl refl
    where
      go : (b c : Bool) → is_attribute (facts h) e ≡ b → is_attribute (facts_with h entry) e ≡ c → is_apart (facts_with h entry) e ≡ true
      go true c was is = old-apart e was
      go false true was is = new-apart e was is
      go false false was is = no_attribute-apart (facts_with h entry) e is

attributes-apart : (h : List Entry) → IsLawful h → (e : ℕ) → is_apart (facts h) e ≡ true
attributes-apart =
    of_lawful (λ h. (e : ℕ) → is_apart (facts h) e ≡ true) first-apart
    (λ h entry lawful before next e. rw facts-push (next-apart h entry next before e))

-- ---- an entity identifies none

pub no_holder-Ref : (h : List Entry) → IsLawful h → (a n : ℕ) → is_identity (facts h) a ≡ true → holder (facts h) a (Ref n) ≡ None
no_holder-Ref h lawful a n identity = go (holder (facts h) a (Ref n)) refl
  where
    never : (o : Option Attribute) → option_map_or (λ attribute. eqb attribute.uniqueness unique_identity) o false ≡ true
        → option_map_or keeps_apart o true ≡ true → option_map_or (λ attribute. is_of_type attribute.kind (Ref n)) o false ≡ true → ⊥
    never None is apart typed = true≢false (sym is)
    never (Some attribute) is apart typed = both (and_parts _ _ (and_parts _ _ typed).0).0
      where
        both : eqb type_ref attribute.kind ≡ true → ⊥
        both same =
            elim (or_cases (eqb attribute.uniqueness 0) (not (eqb attribute.kind type_ref)) apart) [
              | inl none ↦ true≢false (sym (sym (ap (λ u. eqb u unique_identity) (eqb-true attribute.uniqueness 0 none)) ∙ is))
              | inr other ↦
                  true≢false (sym (sym (ap not (eq-eqb attribute.kind type_ref (sym (eqb-true type_ref attribute.kind same)))) ∙ other))
            ]

    go : (o : Option ℕ) → holder (facts h) a (Ref n) ≡ o → o ≡ None
    go None is = refl
    go (Some e) is =
        let has = holder-HasFact (facts h) e a (Ref n) is in
        absurd (never (attribute_of (facts h) a) identity (attributes-apart h lawful a)
        (subst (λ v. option_map_or (λ attribute. is_of_type attribute.kind v) (attribute_of (facts h) a) false ≡ true)
        (value_eq-true has.datom.v (Ref n) has.v_is)
        (subst (λ x. option_map_or (λ attribute. is_of_type attribute.kind has.datom.v) (attribute_of (facts h) x) false ≡ true)
        (eqb-true has.datom.a a has.a_is) (facts_typed h lawful has.datom has.member))))
