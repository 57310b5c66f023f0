-- What an entry that keeps what is asked of it alone does to the schema, and law 9.
use Rattle.std.proofs.Common.{◌≡◌, ℕ, Bool, true, false, not, ◌&&◌, ◌||◌, List, [], ◌∷◌, ◌++◌, refl, ap, sym, ◌∙◌, subst}
use Rattle.std.proofs.Common.{eqb, leb, Option, Some, None, inl, inr, ◌⊎◌}
use Rattle.std.specs.Prelude.{Contains, is_some}
use Rattle.std.specs.List.{list_any, list_all}
use Rattle.std.specs.Option.{option_map_or}
use Rattle.std.proofs.lemmas.Bool.{true≢false, and_parts, and_from, or_left, or_right, or_cases, eqb-true}
use Rattle.std.proofs.lemmas.List.Folds.{list_all-append}
use Rattle.fb_values.specs.declared.facts.Datom.{Datom}
use Rattle.fb_values.specs.declared.facts.Entry.{Entry}
use Rattle.fb_values.specs.declared.facts.Value.{Value}
use Rattle.fb_values.specs.declared.facts.Value.TheVariants.{Ref}
use Rattle.fb_numbers.specs.Numbers.{ident, value_type, cardinality, unique, is_component, index, cardinality_one, cardinality_many}
use Rattle.fb_model.specs.FirstEntry.{first_entry}
use Rattle.fb_model.specs.History.{said}
use Rattle.fb_model.specs.Facts.{facts, value_of}
use Rattle.fb_model.specs.Lawful.{IsLawful}
use Rattle.fb_model.specs.Laws.{facts_with, says_attribute, is_alteration, are_allowed, has_reserved_name}
use Rattle.fb_model.specs.Laws.{are_new_ones_whole, are_altered_ones_whole, keeps_reserved_names, has_whole_attributes}
use Rattle.fb_model.specs.Schema.{Attribute, attribute_of, attribute_from, is_attribute, is_about, is_one, is_unique, is_whole}
use Rattle.fb_model.specs.Schema.{is_whole_attribute, entity_of, entity_in, keyword_of, truth_of}
use Rattle.fb_model.proofs.Members.{all_members, member_passes, standing_member}
use Rattle.fb_model.proofs.Invariants.{or_true}
use Rattle.fb_model.proofs.SchemaHistories.{none_pass, none_about, fixed_forbidden, described_ones, reserved_names}
use Rattle.fb_model.proofs.Untouched.{value_of-untouched}
use Rattle.fb_model.proofs.Members.{are_of_other_triples}
use Rattle.tx_after.proofs.WithChanges.{IsAfter, stays, comes, after_cases}
use Rattle.tx_laws.specs.Changes.{add_no_reserved_names}
use Rattle.log_sweep.specs.Alone.{is_a_cardinality, has_a_cardinality, may_be_said, describes_well}

-- ---- an attribute stays as it is but for its index

says_cardinality : (d : Datom) → eqb d.a cardinality ≡ true → says_attribute d ≡ true
says_cardinality d is = subst (λ n. (leb value_type n && leb n index) ≡ true) (sym (eqb-true d.a cardinality is)) refl

alters-says : (d : Datom) → is_alteration d ≡ true → says_attribute d ≡ true
alters-says d alters = go (or_cases _ _ alters)
  where
    at : (n : ℕ) → (leb value_type n && leb n index) ≡ true → eqb d.a n ≡ true → says_attribute d ≡ true
    at n inside is = subst (λ k. (leb value_type k && leb k index) ≡ true) (sym (eqb-true d.a n is)) inside

    first : (eqb d.a cardinality ≡ true) ⊎ (eqb d.a unique ≡ true) → says_attribute d ≡ true
    first (inl is) = at cardinality refl is
    first (inr is) = at unique refl is

    go : ((eqb d.a cardinality || eqb d.a unique) ≡ true) ⊎ (eqb d.a index ≡ true) → says_attribute d ≡ true
    go (inl some) = first (or_cases _ _ some)
    go (inr is) = at index refl is

module _ (before after : List Datom) (d : Datom) (well : describes_well before after d ≡ true) (says : says_attribute d ≡ true) where
  parts_of : (may_be_said before d && (has_a_cardinality d && option_map_or is_whole_attribute (attribute_of after d.e) false)) ≡ true
  parts_of = or_true _ _ says well

  pub said_rightly : may_be_said before d ≡ true
  said_rightly = (and_parts _ _ parts_of).0

  pub whole_after : option_map_or is_whole_attribute (attribute_of after d.e) false ≡ true
  whole_after = (and_parts _ _ (and_parts _ _ parts_of).1).1

pub counts_well : (before after : List Datom) (d : Datom) → describes_well before after d ≡ true → has_a_cardinality d ≡ true
counts_well before after d well = go (eqb d.a cardinality) refl
  where
    go : (b : Bool) → eqb d.a cardinality ≡ b → (not b || is_a_cardinality d.v) ≡ true
    go false is = refl
    go true is =
        let rest = (and_parts _ _ (parts_of before after d well (says_cardinality d is))).1 in
        or_true _ _ is (and_parts _ _ rest).0

-- nothing is said of an attribute under a number between its type and its index
none_said : (before after ds : List Datom) (e a : ℕ) → is_attribute before e ≡ true → (leb value_type a && leb a index) ≡ true
    → eqb a index ≡ false → list_all (describes_well before after) ds ≡ true → list_any (is_about e a) ds ≡ false
none_said before after ds e a installed inside other =
    none_pass (describes_well before after) (is_about e a)
    (λ d about pass. let numbers = and_parts (eqb d.e e) (eqb d.a a) about in
    let e_is = eqb-true d.e e numbers.0 in
    let a_is = eqb-true d.a a numbers.1 in
    let says : says_attribute d ≡ true = subst (λ n. (leb value_type n && leb n index) ≡ true) (sym a_is) inside in
    sym (said_rightly before after d pass says)
    ∙ ap (λ n. eqb n index || not (is_attribute before d.e)) a_is
    ∙ ap (λ b. b || not (is_attribute before d.e)) other
    ∙ ap (λ n. not (is_attribute before n)) e_is
    ∙ ap not installed)
    ds

one_same : (e : ℕ) (k : Option (List ℕ)) (t c u : Option ℕ) (p p' i i' : Bool)
    → option_map_or (λ (attribute : Attribute). not attribute.many) (attribute_from e k t c u p i) false
    ≡ option_map_or (λ (attribute : Attribute). not attribute.many) (attribute_from e k t c u p' i') false
one_same e None t c u p p' i i' = refl
one_same e (Some k) None c u p p' i i' = refl
one_same e (Some k) (Some t) None u p p' i i' = refl
one_same e (Some k) (Some t) (Some c) u p p' i i' = refl

unique_same : (e : ℕ) (k : Option (List ℕ)) (t c u : Option ℕ) (p p' i i' : Bool)
    → option_map_or (λ (attribute : Attribute). not (eqb attribute.uniqueness 0)) (attribute_from e k t c u p i) false
    ≡ option_map_or (λ (attribute : Attribute). not (eqb attribute.uniqueness 0)) (attribute_from e k t c u p' i') false
unique_same e None t c u p p' i i' = refl
unique_same e (Some k) None c u p p' i i' = refl
unique_same e (Some k) (Some t) None u p p' i i' = refl
unique_same e (Some k) (Some t) (Some c) u p p' i i' = refl

module _ (h : List Entry) (entry : Entry) (allowed : are_allowed (facts h) entry.datoms ≡ true)
    (well : list_all (describes_well (facts h) (facts_with h entry)) entry.datoms ≡ true) where
  module _ (e : ℕ) (installed : is_attribute (facts h) e ≡ true) where
    ident_is : value_of (facts_with h entry) e ident ≡ value_of (facts h) e ident
    ident_is =
        value_of-untouched (said h) entry.datoms e ident
        (none_about (facts h) e ident (fixed_forbidden (facts h) e ident installed refl) entry.datoms allowed)

    kept_under : (a : ℕ) → (leb value_type a && leb a index) ≡ true → eqb a index ≡ false
        → value_of (facts_with h entry) e a ≡ value_of (facts h) e a
    kept_under a inside other =
        value_of-untouched (said h) entry.datoms e a
        (none_said (facts h) (facts_with h entry) entry.datoms e a installed inside other well)

    one_stays : is_one (facts_with h entry) e ≡ is_one (facts h) e
    one_stays =
        one_same e (keyword_of (facts_with h entry) e ident) (entity_of (facts_with h entry) e value_type)
        (entity_of (facts_with h entry) e cardinality) (entity_of (facts_with h entry) e unique)
        (truth_of (facts_with h entry) e is_component) (truth_of (facts h) e is_component)
        (truth_of (facts_with h entry) e index) (truth_of (facts h) e index)
        ∙ rw (ident_is, kept_under value_type refl refl, kept_under cardinality refl refl, kept_under unique refl refl) refl

    unique_stays : is_unique (facts_with h entry) e ≡ is_unique (facts h) e
    unique_stays =
        unique_same e (keyword_of (facts_with h entry) e ident) (entity_of (facts_with h entry) e value_type)
        (entity_of (facts_with h entry) e cardinality) (entity_of (facts_with h entry) e unique)
        (truth_of (facts_with h entry) e is_component) (truth_of (facts h) e is_component)
        (truth_of (facts_with h entry) e index) (truth_of (facts h) e index)
        ∙ rw (ident_is, kept_under value_type refl refl, kept_under cardinality refl refl, kept_under unique refl refl) refl

  some_attribute : (f : Attribute → Bool) (o : Option Attribute) → option_map_or f o false ≡ true → is_some o ≡ true
  some_attribute f None is = absurd (true≢false (sym is))
  some_attribute f (Some attribute) is = refl

  pub stays_one : (a : ℕ) → is_one (facts h) a ≡ true → is_one (facts_with h entry) a ≡ true
  stays_one a one = one_stays a (some_attribute (λ (attribute : Attribute). not attribute.many) (attribute_of (facts h) a) one) ∙ one

  pub stays_unique : (a : ℕ) → is_unique (facts h) a ≡ true → is_unique (facts_with h entry) a ≡ true
  stays_unique a one =
      unique_stays a (some_attribute (λ (attribute : Attribute). not (eqb attribute.uniqueness 0)) (attribute_of (facts h) a) one) ∙ one

-- ---- an attribute has one of the two cardinalities

value_counts : (v : Value) → is_a_cardinality v ≡ true → option_map_or (λ n. eqb n cardinality_one || eqb n cardinality_many) (entity_in v) true ≡ true
value_counts (Ref n) is = is
value_counts v is = refl

facts_count : (fs : List Datom) (e : ℕ) → list_all has_a_cardinality fs ≡ true
    → option_map_or (λ n. eqb n cardinality_one || eqb n cardinality_many) (entity_of fs e cardinality) true ≡ true
facts_count [] e every = refl
facts_count (d ∷ ds) e every =
    let parts = and_parts (has_a_cardinality d) (list_all has_a_cardinality ds) every in
    go (is_about e cardinality d) refl (facts_count ds e parts.1) parts.0
  where
    go : (b : Bool) → is_about e cardinality d ≡ b
        → option_map_or (λ n. eqb n cardinality_one || eqb n cardinality_many) (entity_of ds e cardinality) true ≡ true
        → has_a_cardinality d ≡ true
        → option_map_or (λ n. eqb n cardinality_one || eqb n cardinality_many) (entity_of (d ∷ ds) e cardinality) true ≡ true
    go false is rest own = rw is rest
    go true is rest own = rw is (value_counts d.v (or_true _ _ (and_parts (eqb d.e e) (eqb d.a cardinality) is).1 own))

counted_attribute : (f : ℕ → Bool) (e : ℕ) (k : Option (List ℕ)) (t c u : Option ℕ) (p i : Bool)
    → option_map_or is_whole_attribute (attribute_from e k t c u p i) false ≡ true → option_map_or f c true ≡ true
    → option_map_or f c false ≡ true
counted_attribute f e None t c u p i whole good = absurd (true≢false (sym whole))
counted_attribute f e (Some k) None c u p i whole good = absurd (true≢false (sym whole))
counted_attribute f e (Some k) (Some t) None u p i whole good = absurd (true≢false (sym whole))
counted_attribute f e (Some k) (Some t) (Some c) u p i whole good = good

whole_from : (fs : List Datom) (e : ℕ) → list_all has_a_cardinality fs ≡ true
    → option_map_or is_whole_attribute (attribute_of fs e) false ≡ true → is_whole fs e ≡ true
whole_from fs e every whole =
    and_from _ _ whole
    (counted_attribute (λ n. eqb n cardinality_one || eqb n cardinality_many) e (keyword_of fs e ident) (entity_of fs e value_type)
    (entity_of fs e cardinality) (entity_of fs e unique) (truth_of fs e is_component) (truth_of fs e index) whole (facts_count fs e every))

-- ---- law 9

pub said_counts : (h : List Entry) (entry : Entry) → list_all has_a_cardinality (said h) ≡ true
    → list_all (describes_well (facts h) (facts_with h entry)) entry.datoms ≡ true
    → list_all has_a_cardinality (said h ++ entry.datoms) ≡ true
said_counts h entry before well =
    list_all-append has_a_cardinality (said h) entry.datoms
    ∙ and_from _ _ before
    (all_members has_a_cardinality entry.datoms
    (λ d member. counts_well (facts h) (facts_with h entry) d (member_passes (describes_well (facts h) (facts_with h entry)) entry.datoms d well member)))

pub first_counts : list_all has_a_cardinality (said (first_entry ∷ [])) ≡ true
first_counts = refl

module _ (h : List Entry) (entry : Entry) (lawful : IsLawful h) (counts : list_all has_a_cardinality (said h) ≡ true)
    (apart : are_of_other_triples entry.datoms ≡ true)
    (well : list_all (describes_well (facts h) (facts_with h entry)) entry.datoms ≡ true) where
  whole : (d : Datom) → Contains entry.datoms d → says_attribute d ≡ true → is_whole (facts_with h entry) d.e ≡ true
  whole d member says =
      whole_from (facts_with h entry) d.e
      (all_members has_a_cardinality (facts_with h entry)
      (λ x x_in. member_passes has_a_cardinality (said h ++ entry.datoms) x (said_counts h entry counts well)
      (standing_member (said h ++ entry.datoms) x x_in)))
      (whole_after (facts h) (facts_with h entry) d
      (member_passes (describes_well (facts h) (facts_with h entry)) entry.datoms d well member) says)

  new_ones : are_new_ones_whole (facts h) (facts_with h entry) ≡ true
  new_ones =
      all_members (λ d. not (says_attribute d) || is_attribute (facts h) d.e || is_whole (facts_with h entry) d.e) (facts_with h entry)
      (λ d member. at d (after_cases h entry.datoms apart d member) (says_attribute d) refl)
    where
      at : (d : Datom) → IsAfter h entry.datoms apart d → (b : Bool) → says_attribute d ≡ b
          → (not b || is_attribute (facts h) d.e || is_whole (facts_with h entry) d.e) ≡ true
      at d from false says = refl
      at d (stays member untold) true says =
          or_left _ _ (or_true _ _ says
          (member_passes (λ d. not (says_attribute d) || is_attribute (facts h) d.e) (facts h) d (described_ones h lawful) member))
      at d (comes member added) true says = or_right _ _ (whole d member says)

  altered_ones : are_altered_ones_whole (facts h) (facts_with h entry) entry.datoms ≡ true
  altered_ones =
      all_members (λ d. not (is_alteration d && is_attribute (facts h) d.e) || is_whole (facts_with h entry) d.e) entry.datoms
      (λ d member. at d member (is_alteration d && is_attribute (facts h) d.e) refl)
    where
      at : (d : Datom) → Contains entry.datoms d → (b : Bool) → (is_alteration d && is_attribute (facts h) d.e) ≡ b
          → (not b || is_whole (facts_with h entry) d.e) ≡ true
      at d member false is = refl
      at d member true is = whole d member (alters-says d (and_parts _ _ is).0)

  pub whole_attributes : has_whole_attributes h entry ≡ true
  whole_attributes = and_from _ _ new_ones altered_ones

  pub no_reserved_names : add_no_reserved_names entry.datoms ≡ true → keeps_reserved_names (facts_with h entry) ≡ true
  no_reserved_names none =
      all_members (λ d. not (has_reserved_name d)) (facts_with h entry) (λ d member. at d (after_cases h entry.datoms apart d member))
    where
      at : (d : Datom) → IsAfter h entry.datoms apart d → not (has_reserved_name d) ≡ true
      at d (stays member untold) = member_passes (λ d. not (has_reserved_name d)) (facts h) d (reserved_names h lawful) member
      at d (comes member added) =
          sym (ap (λ b. not (b && has_reserved_name d)) added)
          ∙ member_passes (λ d. not (d.added && has_reserved_name d)) entry.datoms d none member
