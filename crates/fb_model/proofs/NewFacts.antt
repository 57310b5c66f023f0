-- Entries that tell texts and instants of entities of which nothing was said before leave the schema as it was, and so
-- keep the laws that speak of it.
use Rattle.std.proofs.Common.{◌≡◌, ℕ, Bool, true, false, cond, not, ◌&&◌, ◌||◌, List, [], ◌∷◌, ◌++◌, length, map, refl, ap, sym, ◌∙◌, subst}
use Rattle.std.proofs.Common.{inl, inr, eqb, leb, Option}
use Rattle.std.specs.Prelude.{filter, is_some, IsTrue}
use Rattle.std.specs.List.{list_any, list_all}
use Rattle.std.specs.Option.{option_map_or}
use Rattle.std.proofs.lemmas.Bool.{true≢false, and_parts, and_from, or_parts, or_from, or_left, or_right, or_cases, eqb-true, eq-eqb}
use Rattle.std.proofs.lemmas.List.Folds.{list_all-append}
use Rattle.std.proofs.lemmas.List.{map-append}
use Rattle.fb_values.specs.declared.facts.Datom.{Datom}
use Rattle.fb_values.specs.declared.facts.Entry.{Entry}
use Rattle.fb_values.specs.declared.facts.Value.{Value}
use Rattle.fb_numbers.specs.Numbers.{ident, value_type, cardinality, unique, is_component, index, doc, tx_instant, is_builtin, type_string}
use Rattle.fb_numbers.specs.Numbers.{type_instant}
use Rattle.fb_model.specs.FirstEntry.{first_entry}
use Rattle.fb_model.specs.History.{said}
use Rattle.fb_model.specs.Facts.{facts, standing, is_last_assertion, is_of, values_of, value_eq}
use Rattle.fb_model.specs.Types.{is_of_type}
use Rattle.fb_model.specs.Schema.{is_about, SaysNothingOf, Attribute, attribute_of, is_attribute, is_one, is_unique, is_whole}
use Rattle.fb_model.specs.Laws.{facts_with, is_forbidden, are_allowed, says_attribute, are_new_ones_whole, are_altered_ones_whole}
use Rattle.fb_model.specs.Laws.{has_no_other_holder, has_installed_attributes, has_typed_values, has_one_value_each, has_one_holder_each}
use Rattle.fb_model.specs.Laws.{has_whole_attributes, has_allowed_changes, has_no_reserved_names, has_reserved_name}
use Rattle.fb_model.specs.Lawful.{IsLawful}
use Rattle.fb_model.proofs.Triples.{standing-append, not_followed, list_any-kept}
use Rattle.fb_model.proofs.Untouched.{attribute_of-untouched, filter-append}
use Rattle.fb_model.proofs.Invariants.{lawful-one_value, lawful-one_holder}
use Rattle.fb_model.proofs.SchemaHistories.{none_pass, all_pass, builtin_stays, described_ones, reserved_names}

-- ---- lists

append-nil : (vs : List Value) → vs ++ [] ≡ vs
append-nil [] = refl
append-nil (v ∷ vs) = ap (λ rest. v ∷ rest) (append-nil vs)

filter_all : (p : Datom → Bool) (ds : List Datom) → list_all p ds ≡ true → filter p ds ≡ ds
filter_all p [] every = refl
filter_all p (d ∷ ds) every = let parts = and_parts (p d) (list_all p ds) every in rw (parts.0, filter_all p ds parts.1) refl

filter_none : (p : Datom → Bool) (ds : List Datom) → list_any p ds ≡ false → filter p ds ≡ []
filter_none p [] none = refl
filter_none p (d ∷ ds) none = let parts = or_parts (p d) (list_any p ds) none in rw (parts.0, filter_none p ds parts.1) refl

all_pass_both : (p r q : Datom → Bool) → ((d : Datom) → p d ≡ true → r d ≡ true → q d ≡ true) → (ds : List Datom) → list_all p ds ≡ true
    → list_all r ds ≡ true → list_all q ds ≡ true
all_pass_both p r q next [] every other = refl
all_pass_both p r q next (d ∷ ds) every other =
    let ps = and_parts (p d) (list_all p ds) every in
    let rs = and_parts (r d) (list_all r ds) other in
    and_from (q d) (list_all q ds) (next d ps.0 rs.0) (all_pass_both p r q next ds ps.1 rs.1)

pub standing_none : (p : Datom → Bool) (ds : List Datom) → list_any p ds ≡ false → list_any p (standing ds) ≡ false
standing_none p [] none = refl
standing_none p (d ∷ ds) none =
    let parts = or_parts (p d) (list_any p ds) none in
    list_any-kept p (is_last_assertion d ds) d (standing ds)
    ∙ or_from _ _ (ap (λ b. is_last_assertion d ds && b) parts.0 ∙ and_false (is_last_assertion d ds)) (standing_none p ds parts.1)
  where
    and_false : (b : Bool) → (b && false) ≡ false
    and_false false = refl
    and_false true = refl

-- ---- lists of datoms with no entity in common

abbrev is_apart : List Datom → Datom → Bool
is_apart ds d = not (list_any (λ other. eqb other.e d.e) ds)

not-true : (b : Bool) → not b ≡ true → b ≡ false
not-true false e = refl
not-true true e = absurd (true≢false (sym e))

eqb-sym : (a b : ℕ) → eqb a b ≡ false → eqb b a ≡ false
eqb-sym a b apart = go (eqb b a) refl
  where
    go : (r : Bool) → eqb b a ≡ r → r ≡ false
    go false is = refl
    go true is = absurd (true≢false (sym (eq-eqb a b (sym (eqb-true b a is))) ∙ apart))

-- a datom is apart from each of a list where each of the list is apart from it
flip_one : (x : Datom) (ds : List Datom) → list_all (λ d. not (eqb x.e d.e)) ds ≡ true → is_apart ds x ≡ true
flip_one x ds every = ap not (none_pass (λ d. not (eqb x.e d.e)) (λ other. eqb other.e x.e)
    (λ d same differs. sym differs ∙ ap not (eq-eqb x.e d.e (sym (eqb-true d.e x.e same)))) ds every)

flip_apart : (xs ds : List Datom) → list_all (is_apart xs) ds ≡ true → list_all (is_apart ds) xs ≡ true
flip_apart [] ds every = refl
flip_apart (x ∷ xs) ds every =
    and_from _ _
    (flip_one x ds (all_pass (is_apart (x ∷ xs)) (λ d. not (eqb x.e d.e)) (λ d apart. ap not (or_parts _ _ (not-true _ apart)).0) ds every))
    (flip_apart xs ds (all_pass (is_apart (x ∷ xs)) (is_apart xs) (λ d apart. ap not (or_parts _ _ (not-true _ apart)).1) ds every))

apart-not_followed : (ds : List Datom) (d : Datom) → is_apart ds d ≡ true → not_followed ds d ≡ true
apart-not_followed ds d apart =
    ap not (none_pass (λ other. not (eqb other.e d.e)) (is_of d.e d.a d.v)
    (λ other of differs. sym differs ∙ ap not (and_parts _ _ (and_parts _ _ of).0).0) ds
    (all_not (λ other. eqb other.e d.e) ds (not-true _ apart)))
  where
    all_not : (p : Datom → Bool) (xs : List Datom) → list_any p xs ≡ false → list_all (λ x. not (p x)) xs ≡ true
    all_not p [] none = refl
    all_not p (x ∷ xs) none = let parts = or_parts (p x) (list_any p xs) none in and_from _ _ (ap not parts.0) (all_not p xs parts.1)

apart-none_about : (ds : List Datom) (e a : ℕ) → list_any (λ other. eqb other.e e) ds ≡ false → list_any (is_about e a) ds ≡ false
apart-none_about [] e a none = refl
apart-none_about (d ∷ ds) e a none =
    let parts = or_parts (eqb d.e e) (list_any (λ other. eqb other.e e) ds) none in
    or_from _ _ (ap (λ b. b && eqb d.a a) parts.0) (apart-none_about ds e a parts.1)

-- ---- the entry

abbrev tells_a_text_or_instant : Datom → Bool
tells_a_text_or_instant d = eqb d.a doc || eqb d.a tx_instant

-- what the entry says, of entities of which nothing was said
pub record TellsOfNewEntities (h : List Entry) (entry : Entry) : Type 0 where
  pub plain : list_all tells_a_text_or_instant entry.datoms ≡ true
  pub new : list_all (λ d. not (list_any (λ other. eqb other.e d.e) (said h))) entry.datoms ≡ true
  pub added : list_all (λ d. d.added) entry.datoms ≡ true
  pub stand : standing entry.datoms ≡ entry.datoms
  pub single : list_all (λ d. leb (length (values_of entry.datoms d.e d.a)) 1) entry.datoms ≡ true
  pub typed : list_all (λ d. is_of_type (cond (eqb d.a doc) type_string type_instant) d.v) entry.datoms ≡ true

-- the laws that speak of the schema
pub record KeepsSchema (h : List Entry) (entry : Entry) : Type 0 where
  pub installed_attributes : IsTrue (has_installed_attributes h entry)
  pub typed_values : IsTrue (has_typed_values h entry)
  pub one_value_each : IsTrue (has_one_value_each h entry)
  pub one_holder_each : IsTrue (has_one_holder_each h entry)
  pub whole_attributes : IsTrue (has_whole_attributes h entry)
  pub allowed_changes : IsTrue (has_allowed_changes h entry)
  pub no_reserved_names : IsTrue (has_no_reserved_names h entry)

plain_cases : (P : ℕ → Type 0) (a : ℕ) → P doc → P tx_instant → (eqb a doc || eqb a tx_instant) ≡ true → P a
plain_cases P a at_doc at_instant plain =
    elim (or_cases (eqb a doc) (eqb a tx_instant) plain) [
      | inl is ↦ subst P (sym (eqb-true a doc is)) at_doc
      | inr is ↦ subst P (sym (eqb-true a tx_instant is)) at_instant
    ]

-- a part of the schema that neither attribute is
other_attribute : (part a : ℕ) → eqb doc part ≡ false → eqb tx_instant part ≡ false → (eqb a doc || eqb a tx_instant) ≡ true
    → eqb a part ≡ false
other_attribute part a not_doc not_instant plain = plain_cases (λ x. eqb x part ≡ false) a not_doc not_instant plain

plain-none_about : (e part : ℕ) → eqb doc part ≡ false → eqb tx_instant part ≡ false
    → (ds : List Datom) → list_all tells_a_text_or_instant ds ≡ true → list_any (is_about e part) ds ≡ false
plain-none_about e part not_doc not_instant ds plain =
    none_pass tells_a_text_or_instant (is_about e part)
    (λ d about tells. sym (and_parts _ _ about).1 ∙ other_attribute part d.a not_doc not_instant tells) ds plain

describes_none : (ds : List Datom) (e : ℕ) → list_all tells_a_text_or_instant ds ≡ true → SaysNothingOf e ds
describes_none ds e plain =
    record {
      ident_none = plain-none_about e ident refl refl ds plain;
      type_none = plain-none_about e value_type refl refl ds plain;
      cardinality_none = plain-none_about e cardinality refl refl ds plain;
      unique_none = plain-none_about e unique refl refl ds plain;
      component_none = plain-none_about e is_component refl refl ds plain;
      index_none = plain-none_about e index refl refl ds plain;
    }

-- ---- the facts with the entry

module _ (h : List Entry) (entry : Entry) (lawful : IsLawful h) (tells : TellsOfNewEntities h entry) where
  before : List Datom
  before = facts h

  apart_facts : list_all (is_apart before) entry.datoms ≡ true
  unfolding before
  apart_facts =
      all_pass (is_apart (said h)) (is_apart before)
      (λ d apart. ap not (standing_none (λ other. eqb other.e d.e) (said h) (not-true _ apart))) entry.datoms tells.new

  facts_apart : list_all (is_apart entry.datoms) before ≡ true
  facts_apart = flip_apart before entry.datoms apart_facts

  facts_are : facts_with h entry ≡ before ++ entry.datoms
  unfolding before
  facts_are =
      standing-append (said h) entry.datoms
      ∙ ap (λ l. l ++ standing entry.datoms) (filter_all (not_followed entry.datoms) before
      (all_pass (is_apart entry.datoms) (not_followed entry.datoms) (apart-not_followed entry.datoms) before facts_apart))
      ∙ ap (λ l. before ++ l) tells.stand

  same_attribute : (a : ℕ) → attribute_of (facts_with h entry) a ≡ attribute_of before a
  unfolding before
  same_attribute a = attribute_of-untouched (said h) entry.datoms a (describes_none entry.datoms a tells.plain)

  at_plain : (f : Option Attribute → Bool) (a : ℕ) → (eqb a doc || eqb a tx_instant) ≡ true
      → f (attribute_of (facts (first_entry ∷ [])) doc) ≡ true → f (attribute_of (facts (first_entry ∷ [])) tx_instant) ≡ true
      → f (attribute_of before a) ≡ true
  unfolding before
  at_plain f a plain at_doc at_instant =
      plain_cases (λ x. f (attribute_of before x) ≡ true) a (ap f (builtin_stays doc refl h lawful) ∙ at_doc)
      (ap f (builtin_stays tx_instant refl h lawful) ∙ at_instant) plain

  values_with : (e a : ℕ) → values_of (before ++ entry.datoms) e a ≡ values_of before e a ++ values_of entry.datoms e a
  values_with e a =
      ap (map (λ (d : Datom). d.v)) (filter-append (is_about e a) before entry.datoms)
      ∙ map-append (λ (d : Datom). d.v) (filter (is_about e a) before) (filter (is_about e a) entry.datoms)

  values_before : (d : Datom) (a : ℕ) → is_apart entry.datoms d ≡ true → values_of (before ++ entry.datoms) d.e a ≡ values_of before d.e a
  values_before d a apart =
      values_with d.e a
      ∙ ap (λ l. values_of before d.e a ++ map (λ (o : Datom). o.v) l)
      (filter_none (is_about d.e a) entry.datoms (apart-none_about entry.datoms d.e a (not-true _ apart)))
      ∙ append-nil (values_of before d.e a)

  values_behind : (d : Datom) (a : ℕ) → is_apart before d ≡ true → values_of (before ++ entry.datoms) d.e a ≡ values_of entry.datoms d.e a
  values_behind d a apart =
      values_with d.e a
      ∙ ap (λ l. map (λ (o : Datom). o.v) l ++ values_of entry.datoms d.e a)
      (filter_none (is_about d.e a) before (apart-none_about before d.e a (not-true _ apart)))

  -- ---- 7

  one_with : (a : ℕ) → is_one (facts_with h entry) a ≡ is_one before a
  one_with a = ap (λ o. option_map_or (λ (attribute : Attribute). not attribute.many) o false) (same_attribute a)

  one_value_step : (d : Datom) → is_apart entry.datoms d ≡ true
      → (not (is_one before d.a) || leb (length (values_of before d.e d.a)) 1) ≡ true
      → (not (is_one (facts_with h entry) d.a) || leb (length (values_of (facts_with h entry) d.e d.a)) 1) ≡ true
  one_value_step d apart short =
      ap (λ b. not b || leb (length (values_of (facts_with h entry) d.e d.a)) 1) (one_with d.a)
      ∙ ap (λ l. not (is_one before d.a) || leb (length l) 1) (ap (λ fs. values_of fs d.e d.a) facts_are ∙ values_before d d.a apart)
      ∙ short

  one_value_new : (d : Datom) → is_apart before d ≡ true → leb (length (values_of entry.datoms d.e d.a)) 1 ≡ true
      → (not (is_one (facts_with h entry) d.a) || leb (length (values_of (facts_with h entry) d.e d.a)) 1) ≡ true
  one_value_new d apart short =
      or_right _ _ (ap (λ l. leb (length l) 1) (ap (λ fs. values_of fs d.e d.a) facts_are ∙ values_behind d d.a apart) ∙ short)

  over_facts : (p : Datom → Bool) → list_all p before ≡ true → list_all p entry.datoms ≡ true → list_all p (facts_with h entry) ≡ true
  over_facts p old new = ap (list_all p) facts_are ∙ list_all-append p before entry.datoms ∙ and_from _ _ old new

  one_values : has_one_value_each h entry ≡ true
  unfolding before
  one_values =
      over_facts (λ d. not (is_one (facts_with h entry) d.a) || leb (length (values_of (facts_with h entry) d.e d.a)) 1)
      (all_pass_both (is_apart entry.datoms) (λ d. not (is_one before d.a) || leb (length (values_of before d.e d.a)) 1) _ one_value_step
      before facts_apart (lawful-one_value h lawful))
      (all_pass_both (is_apart before)
      (λ d. leb (length (values_of entry.datoms d.e d.a)) 1) _ one_value_new entry.datoms apart_facts tells.single)

  -- ---- 8

  unique_with : (a : ℕ) → is_unique (facts_with h entry) a ≡ is_unique before a
  unique_with a = ap (λ o. option_map_or (λ (attribute : Attribute). not (eqb attribute.uniqueness 0)) o false) (same_attribute a)

  not_unique : (a : ℕ) → (eqb a doc || eqb a tx_instant) ≡ true → is_unique before a ≡ false
  not_unique a plain =
      not-true _
      (at_plain (λ o. not (option_map_or (λ (attribute : Attribute). not (eqb attribute.uniqueness 0)) o false)) a plain refl refl)

  other_holders : (d : Datom) → is_unique before d.a ≡ true
      → list_all (λ other. not (eqb other.a d.a && value_eq other.v d.v) || eqb other.e d.e) entry.datoms ≡ true
  other_holders d one =
      all_pass tells_a_text_or_instant (λ other. not (eqb other.a d.a && value_eq other.v d.v) || eqb other.e d.e)
      (λ other plain. differs other (eqb other.a d.a) refl plain) entry.datoms tells.plain
    where
      differs : (other : Datom) (b : Bool) → eqb other.a d.a ≡ b → (eqb other.a doc || eqb other.a tx_instant) ≡ true
          → (not (b && value_eq other.v d.v) || eqb other.e d.e) ≡ true
      differs other false is plain = refl
      differs other true is plain =
          absurd (true≢false (sym one ∙ ap (is_unique before) (sym (eqb-true other.a d.a is)) ∙ not_unique other.a plain))

  one_holder_step : (d : Datom) → (not (is_unique before d.a) || has_no_other_holder before d) ≡ true
      → (not (is_unique (facts_with h entry) d.a) || has_no_other_holder (facts_with h entry) d) ≡ true
  one_holder_step d alone =
      ap (λ b. not b || has_no_other_holder (facts_with h entry) d) (unique_with d.a) ∙ go (is_unique before d.a) refl alone
    where
      go : (b : Bool) → is_unique before d.a ≡ b → (not b || has_no_other_holder before d) ≡ true
          → (not b || has_no_other_holder (facts_with h entry) d) ≡ true
      go false is alone = refl
      go true is alone = over_facts (λ other. not (eqb other.a d.a && value_eq other.v d.v) || eqb other.e d.e) alone (other_holders d is)

  one_holders : has_one_holder_each h entry ≡ true
  unfolding before
  one_holders =
      over_facts (λ d. not (is_unique (facts_with h entry) d.a) || has_no_other_holder (facts_with h entry) d)
      (all_pass (λ d. not (is_unique before d.a) || has_no_other_holder before d) _ one_holder_step before (lawful-one_holder h lawful))
      (all_pass tells_a_text_or_instant _
      (λ d plain. or_left _ (has_no_other_holder (facts_with h entry) d) (ap not (unique_with d.a ∙ not_unique d.a plain))) entry.datoms
      tells.plain)

  -- ---- 9

  new_ones : are_new_ones_whole before (facts_with h entry) ≡ true
  unfolding before
  new_ones =
      over_facts (λ d. (not (says_attribute d) || is_attribute before d.e) || is_whole (facts_with h entry) d.e)
      (all_pass (λ d. not (says_attribute d) || is_attribute before d.e) _
      (λ d described. or_left _ (is_whole (facts_with h entry) d.e) described) before (described_ones h lawful))
      (all_pass tells_a_text_or_instant _ (λ d plain. or_left _ (is_whole (facts_with h entry) d.e)
      (or_left _ (is_attribute before d.e) (plain_cases (λ x. not (leb value_type x && leb x index) ≡ true) d.a refl refl plain)))
      entry.datoms tells.plain)

  altered_ones : are_altered_ones_whole before (facts_with h entry) entry.datoms ≡ true
  altered_ones =
      all_pass tells_a_text_or_instant _
      (λ d plain. plain_cases (λ x.
      (not (((eqb x cardinality || eqb x unique) || eqb x index) && is_attribute before d.e) || is_whole (facts_with h entry) d.e) ≡ true)
      d.a refl refl plain)
      entry.datoms tells.plain

  allowed : are_allowed before entry.datoms ≡ true
  allowed =
      all_pass_both tells_a_text_or_instant (λ d. d.added) (λ d. not (is_forbidden before d))
      (λ d plain added. fine d (d.added) added plain) entry.datoms tells.plain tells.added
    where
      fine : (d : Datom) (added : Bool) → added ≡ true → (eqb d.a doc || eqb d.a tx_instant) ≡ true
          → not ((((eqb d.a ident || eqb d.a value_type) || eqb d.a is_component) && is_attribute before d.e)
          || ((leb ident d.a && leb d.a index) && is_builtin d.e) || (eqb d.a tx_instant && not added)) ≡ true
      fine d true is plain =
          plain_cases (λ x. not ((((eqb x ident || eqb x value_type) || eqb x is_component) && is_attribute before d.e)
          || ((leb ident x && leb x index) && is_builtin d.e) || (eqb x tx_instant && not true)) ≡ true) d.a refl refl plain
      fine d false is plain = absurd (true≢false (sym is))

  names : has_no_reserved_names h entry ≡ true
  unfolding before
  names =
      over_facts (λ d. not (has_reserved_name d)) (reserved_names h lawful)
      (all_pass tells_a_text_or_instant (λ d. not (has_reserved_name d)) (λ d plain. other_name d plain) entry.datoms tells.plain)
    where
      other_name : (d : Datom) → (eqb d.a doc || eqb d.a tx_instant) ≡ true → not (has_reserved_name d) ≡ true
      other_name d plain = rw (other_attribute ident d.a refl refl plain) refl

  -- ---- 3 and 4

  installed : has_installed_attributes h entry ≡ true
  unfolding before
  installed =
      all_pass tells_a_text_or_instant (λ d. is_attribute before d.a)
      (λ d plain. at_plain is_some d.a plain refl refl) entry.datoms tells.plain

  typed : has_typed_values h entry ≡ true
  unfolding before
  typed =
      all_pass_both tells_a_text_or_instant (λ d. is_of_type (cond (eqb d.a doc) type_string type_instant) d.v)
      (λ d. option_map_or (λ attribute. is_of_type attribute.kind d.v) (attribute_of before d.a) false)
      (λ d plain of_type.
      plain_cases (λ x. is_of_type (cond (eqb x doc) type_string type_instant) d.v ≡ true
      → option_map_or (λ (attribute : Attribute). is_of_type attribute.kind d.v) (attribute_of before x) false ≡ true) d.a
      (λ text. ap (λ o. option_map_or (λ (attribute : Attribute). is_of_type attribute.kind d.v) o false) (builtin_stays doc refl h lawful)
      ∙ text)
      (λ instant. ap (λ o. option_map_or (λ (attribute : Attribute). is_of_type attribute.kind d.v) o false)
      (builtin_stays tx_instant refl h lawful) ∙ instant)
      plain of_type)
      entry.datoms tells.plain tells.typed

  pub keeps_schema : KeepsSchema h entry
  unfolding before
  keeps_schema =
      record {
        installed_attributes = installed;
        typed_values = typed;
        one_value_each = one_values;
        one_holder_each = one_holders;
        whole_attributes = and_from _ _ new_ones altered_ones;
        allowed_changes = allowed;
        no_reserved_names = names;
      }
