-- What becomes of attributes in lawful histories.
use Rattle.std.proofs.Common.{◌≡◌, ℕ, Bool, true, false, not, ◌&&◌, ◌||◌, List, [], ◌∷◌, refl, ap, sym, ◌∙◌, subst, eqb, leb, Option, Some}
use Rattle.std.proofs.Common.{None}
use Rattle.std.specs.Prelude.{is_some}
use Rattle.std.specs.List.{list_any, list_all}
use Rattle.std.specs.Option.{option_map_or}
use Rattle.std.proofs.lemmas.Bool.{true≢false, and_parts, and_from, or_parts, or_from, or_left, or_right, eqb-true}
use Rattle.fb_values.specs.declared.facts.Datom.{Datom}
use Rattle.fb_values.specs.declared.facts.Entry.{Entry}
use Rattle.fb_numbers.specs.Numbers.{ident, value_type, cardinality, unique, is_component, index, tx_instant, is_builtin}
use Rattle.fb_model.specs.FirstEntry.{first_entry}
use Rattle.fb_model.specs.History.{said}
use Rattle.fb_model.specs.Facts.{facts}
use Rattle.fb_model.specs.Schema.{is_about, SaysNothingOf, Attribute, attribute_of, is_attribute, is_whole, is_whole_attribute}
use Rattle.fb_model.specs.Laws.{facts_with, is_forbidden, are_allowed, is_alteration, says_attribute, keeps_reserved_names}
use Rattle.fb_model.specs.Lawful.{IsLawful, IsLawfulAfter}
use Rattle.fb_model.proofs.Untouched.{attribute_of-untouched}
use Rattle.fb_model.proofs.Invariants.{of_lawful, facts-push, both_pass, or_true}

-- ---- lists

-- where what passes the second test fails the first, and each datom passes the first, none passes the second
pub none_pass : (p q : Datom → Bool) → ((d : Datom) → q d ≡ true → p d ≡ true → true ≡ false) → (ds : List Datom) → list_all p ds ≡ true
    → list_any q ds ≡ false
none_pass p q apart [] every = refl
none_pass p q apart (d ∷ ds) every =
    let parts = and_parts (p d) (list_all p ds) every in
    or_from (q d) (list_any q ds) (go (q d) refl parts.0) (none_pass p q apart ds parts.1)
  where
    go : (b : Bool) → q d ≡ b → p d ≡ true → q d ≡ false
    go false is pass = is
    go true is pass = absurd (true≢false (apart d is pass))

-- where what passes the first test passes the second, and each datom passes the first, each passes the second
pub all_pass : (p q : Datom → Bool) → ((d : Datom) → p d ≡ true → q d ≡ true) → (ds : List Datom) → list_all p ds ≡ true
    → list_all q ds ≡ true
all_pass p q next [] every = refl
all_pass p q next (d ∷ ds) every =
    let parts = and_parts (p d) (list_all p ds) every in
    and_from (q d) (list_all q ds) (next d parts.0) (all_pass p q next ds parts.1)

-- ---- what may not change

-- where each datom of the entity and the attribute is forbidden, there is none
pub none_about : (before : List Datom) (e a : ℕ)
    → ((d : Datom) → d.e ≡ e → d.a ≡ a → is_forbidden before d ≡ true) → (ds : List Datom) → are_allowed before ds ≡ true
    → list_any (is_about e a) ds ≡ false
none_about before e a forbidden ds allowed =
    none_pass (λ d. not (is_forbidden before d)) (is_about e a)
    (λ d about pass. let numbers = and_parts (eqb d.e e) (eqb d.a a) about in
    sym pass ∙ ap not (forbidden d (eqb-true d.e e numbers.0) (eqb-true d.a a numbers.1)))
    ds allowed

pub builtin_forbidden : (before : List Datom) (e a : ℕ) → is_builtin e ≡ true → (leb ident a && leb a index) ≡ true → (d : Datom) → d.e ≡ e
    → d.a ≡ a → is_forbidden before d ≡ true
builtin_forbidden before e a builtin part d e_is a_is =
    let changes : ((leb ident d.a && leb d.a index) && is_builtin d.e) ≡ true =
    and_from _ _ (subst (λ x. (leb ident x && leb x index) ≡ true) (sym a_is) part) (subst (λ x. is_builtin x ≡ true) (sym e_is) builtin) in
    or_left _ (eqb d.a tx_instant && not d.added)
    (or_right (((eqb d.a ident || eqb d.a value_type) || eqb d.a is_component) && is_attribute before d.e) _ changes)

pub fixed_forbidden : (before : List Datom) (e a : ℕ) → is_attribute before e ≡ true
    → ((eqb a ident || eqb a value_type) || eqb a is_component) ≡ true → (d : Datom) → d.e ≡ e → d.a ≡ a → is_forbidden before d ≡ true
fixed_forbidden before e a installed part d e_is a_is =
    let changes : (((eqb d.a ident || eqb d.a value_type) || eqb d.a is_component) && is_attribute before d.e) ≡ true =
    and_from _ _ (subst (λ x. ((eqb x ident || eqb x value_type) || eqb x is_component) ≡ true) (sym a_is) part)
    (subst (λ x. is_attribute before x ≡ true) (sym e_is) installed) in
    or_left _ (eqb d.a tx_instant && not d.added) (or_left _ ((leb ident d.a && leb d.a index) && is_builtin d.e) changes)

-- ---- the built-in attributes stay as they are

described_by_none : (before ds : List Datom) (e : ℕ) → is_builtin e ≡ true → are_allowed before ds ≡ true → SaysNothingOf e ds
described_by_none before ds e builtin allowed =
    record {
      ident_none = none_about before e ident (builtin_forbidden before e ident builtin refl) ds allowed;
      type_none = none_about before e value_type (builtin_forbidden before e value_type builtin refl) ds allowed;
      cardinality_none = none_about before e cardinality (builtin_forbidden before e cardinality builtin refl) ds allowed;
      unique_none = none_about before e unique (builtin_forbidden before e unique builtin refl) ds allowed;
      component_none = none_about before e is_component (builtin_forbidden before e is_component builtin refl) ds allowed;
      index_none = none_about before e index (builtin_forbidden before e index builtin refl) ds allowed;
    }

pub builtin_stays : (e : ℕ) → is_builtin e ≡ true → (h : List Entry) → IsLawful h
    → attribute_of (facts h) e ≡ attribute_of (facts (first_entry ∷ [])) e
builtin_stays e builtin =
    of_lawful (λ h. attribute_of (facts h) e ≡ attribute_of (facts (first_entry ∷ [])) e) refl
    (λ h entry lawful before after. rw facts-push
    (attribute_of-untouched (said h) entry.datoms e (described_by_none (facts h) entry.datoms e builtin after.allowed_changes) ∙ before))

-- ---- an attribute stays one

pub whole-attribute : (facts : List Datom) (e : ℕ) → is_whole facts e ≡ true → is_attribute facts e ≡ true
whole-attribute facts e whole = some_one (attribute_of facts e) (and_parts _ _ whole).0
  where
    some_one : (o : Option Attribute) → option_map_or is_whole_attribute o false ≡ true → is_some o ≡ true
    some_one None is = absurd (true≢false (sym is))
    some_one (Some attribute) is = refl

about_altered : (e a : ℕ) → (eqb a cardinality || eqb a unique || eqb a index) ≡ true
    → (ds : List Datom) → list_any (λ d. is_alteration d && eqb d.e e) ds ≡ false → list_any (is_about e a) ds ≡ false
about_altered e a part [] none = refl
about_altered e a part (d ∷ ds) none =
    let parts = or_parts (is_alteration d && eqb d.e e) (list_any (λ d. is_alteration d && eqb d.e e) ds) none in
    or_from (is_about e a d) (list_any (is_about e a) ds) (go (is_about e a d) refl parts.0) (about_altered e a part ds parts.1)
  where
    go : (b : Bool) → is_about e a d ≡ b → (is_alteration d && eqb d.e e) ≡ false → is_about e a d ≡ false
    go false is apart = is
    go true is apart =
        let numbers = and_parts (eqb d.e e) (eqb d.a a) is in
        absurd (true≢false (sym (and_from (is_alteration d) (eqb d.e e)
        (subst (λ x. (eqb x cardinality || eqb x unique || eqb x index) ≡ true) (sym (eqb-true d.a a numbers.1)) part) numbers.0) ∙ apart))

unaltered : (before ds : List Datom) (e : ℕ) → is_attribute before e ≡ true → are_allowed before ds ≡ true
    → list_any (λ d. is_alteration d && eqb d.e e) ds ≡ false → SaysNothingOf e ds
unaltered before ds e installed allowed none =
    record {
      ident_none = none_about before e ident (fixed_forbidden before e ident installed refl) ds allowed;
      type_none = none_about before e value_type (fixed_forbidden before e value_type installed refl) ds allowed;
      cardinality_none = about_altered e cardinality refl ds none;
      unique_none = about_altered e unique refl ds none;
      component_none = none_about before e is_component (fixed_forbidden before e is_component installed refl) ds allowed;
      index_none = about_altered e index refl ds none;
    }

pub attribute_stays : (h : List Entry) (entry : Entry) (e : ℕ) → IsLawfulAfter h entry → is_attribute (facts h) e ≡ true
    → is_attribute (facts_with h entry) e ≡ true
attribute_stays h entry e next installed = go (list_any (λ d. is_alteration d && eqb d.e e) entry.datoms) refl
  where
    go : (b : Bool) → list_any (λ d. is_alteration d && eqb d.e e) entry.datoms ≡ b → is_attribute (facts_with h entry) e ≡ true
    go false none =
        ap is_some (attribute_of-untouched (said h) entry.datoms e (unaltered (facts h) entry.datoms e installed next.allowed_changes none))
        ∙ installed
    go true some =
        let found =
        both_pass (λ d. not (is_alteration d && is_attribute (facts h) d.e) || is_whole (facts_with h entry) d.e)
        (λ d. is_alteration d && eqb d.e e) entry.datoms
        (and_parts _ _ next.whole_attributes).1 some in
        let parts = and_parts (is_alteration found.element) (eqb found.element.e e) found.passes_q in
        altered found.element (eqb-true found.element.e e parts.1) parts.0 found.passes_p
      where
        altered : (d : Datom) → d.e ≡ e
            → is_alteration d ≡ true → (not (is_alteration d && is_attribute (facts h) d.e) || is_whole (facts_with h entry) d.e) ≡ true
            → is_attribute (facts_with h entry) e ≡ true
        altered d e_is alters whole =
            let before : (is_alteration d && is_attribute (facts h) d.e) ≡ true =
            and_from _ _ alters (subst (λ x. is_attribute (facts h) x ≡ true) (sym e_is) installed) in
            subst (λ x. is_attribute (facts_with h entry) x ≡ true) e_is
            (whole-attribute (facts_with h entry) d.e (or_true _ _ before whole))

-- what is described as an attribute is one
abbrev pub are_described_ones_attributes : List Datom → Bool
are_described_ones_attributes facts = list_all (λ d. not (says_attribute d) || is_attribute facts d.e) facts

pub described_ones : (h : List Entry) → IsLawful h → are_described_ones_attributes (facts h) ≡ true
described_ones =
    of_lawful (λ h. are_described_ones_attributes (facts h) ≡ true) refl
    (λ h entry lawful before after. rw facts-push
    (all_pass (λ d. (not (says_attribute d) || is_attribute (facts h) d.e) || is_whole (facts_with h entry) d.e)
    (λ d. not (says_attribute d) || is_attribute (facts_with h entry) d.e)
    (λ d pass. either (not (says_attribute d)) (is_attribute (facts h) d.e) (is_whole (facts_with h entry) d.e)
    (is_attribute (facts_with h entry) d.e) pass (attribute_stays h entry d.e after) (whole-attribute (facts_with h entry) d.e))
    (facts_with h entry) (and_parts _ _ after.whole_attributes).0))
  where
    either : (x y z w : Bool) → ((x || y) || z) ≡ true → (y ≡ true → w ≡ true) → (z ≡ true → w ≡ true) → (x || w) ≡ true
    either true y z w some f g = refl
    either false true z w some f g = f refl
    either false false z w some f g = g some

pub reserved_names : (h : List Entry) → IsLawful h → keeps_reserved_names (facts h) ≡ true
reserved_names =
    of_lawful (λ h. keeps_reserved_names (facts h) ≡ true) refl (λ h entry lawful before after. rw facts-push after.no_reserved_names)
