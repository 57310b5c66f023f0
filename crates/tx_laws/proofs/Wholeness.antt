-- Law 9 from the entry's datoms alone, since the history keeps it.
use Rattle.std.proofs.Common.{◌≡◌, ℕ, Bool, true, false, cond, not, ◌&&◌, ◌||◌, List, [], ◌∷◌, refl, ap, sym, ◌∙◌, subst, arith, inl, inr}
use Rattle.std.proofs.Common.{◌⊎◌, eqb, leb, Some, None}
use Rattle.std.specs.Prelude.{Contains, is_some}
use Rattle.std.specs.List.{list_all}
use Rattle.std.specs.Option.{option_map_or}
use Rattle.std.specs.Ordering.{nat_cmp}
use Rattle.std.specs.BTreeMap.{BTreeMap, get}
use Rattle.std.proofs.lemmas.Bool.{true≢false, and_parts, and_from, or_left, or_right, or_cases, not-true, eqb-true, eq-eqb, leb-true}
use Rattle.std.proofs.lemmas.Bool.{le-leb}
use Rattle.fb_values.specs.declared.facts.Datom.{Datom}
use Rattle.fb_values.specs.declared.facts.Entry.{Entry}
use Rattle.fb_values.specs.declared.indexes.Order.TheVariants.{Eavt}
use Rattle.fb_numbers.specs.Numbers.{ident, value_type, cardinality, unique, index}
use Rattle.fb_model.specs.Facts.{facts}
use Rattle.fb_model.specs.Lawful.{IsLawful}
use Rattle.fb_model.specs.Laws.{says_attribute, is_alteration, has_reserved_name, are_new_ones_whole, are_altered_ones_whole}
use Rattle.fb_model.specs.Laws.{keeps_reserved_names, are_allowed, are_typed, has_whole_attributes, has_allowed_changes}
use Rattle.fb_model.specs.Laws.{has_no_reserved_names, has_own_instant_alone}
use Rattle.fb_model.specs.Types.{is_of_type}
use Rattle.fb_model.specs.Schema.{Attribute, attribute_of, is_attribute, is_whole}
use Rattle.fb_model.proofs.Members.{member_passes, all_members, any_member, are_of_other_triples}
use Rattle.fb_model.proofs.Invariants.{or_true}
use Rattle.fb_model.proofs.SchemaHistories.{described_ones, reserved_names}
use Rattle.fb_schema.specs.Described.{SchemaStands, describes}
use Rattle.tx_after.specs.After.{after}
use Rattle.tx_after.specs.Triples.{triples_rise}
use Rattle.tx_after.proofs.WithChanges.{IsAfter, stays, comes, after_cases, is_in_after, apart-from_triples}
use Rattle.tx_after.proofs.Promising.{both_ways}
use Rattle.tx_laws.specs.declared.altered.Altered.{Altered}
use Rattle.tx_laws.specs.Alterations.{altered, HasAltered}
use Rattle.tx_laws.specs.Changes.{asks_whole, are_whole, add_no_reserved_names, own_instant_alone, keeps_attributes}
use Rattle.tx_laws.proofs.Altering.{attribute_stands}

-- ---- what describes

says-describes : (d : Datom) → says_attribute d ≡ true → describes d ≡ true
says-describes d says =
    let parts = and_parts (leb value_type d.a) (leb d.a index) says in
    and_from _ _ (le-leb ident d.a (omega (arith, leb-true value_type d.a parts.0))) parts.1

abbrev describes_number : ℕ → Bool
describes_number n = leb ident n && leb n index

alters-describes : (d : Datom) → is_alteration d ≡ true → describes d ≡ true
alters-describes d alters = go (or_cases _ _ alters)
  where
    at : (n : ℕ) → describes_number n ≡ true → eqb d.a n ≡ true → describes d ≡ true
    at n within is = subst (λ k. describes_number k ≡ true) (sym (eqb-true d.a n is)) within

    first : (eqb d.a cardinality ≡ true) ⊎ (eqb d.a unique ≡ true) → describes d ≡ true
    first (inl is) = at cardinality refl is
    first (inr is) = at unique refl is

    go : ((eqb d.a cardinality || eqb d.a unique) ≡ true) ⊎ (eqb d.a index ≡ true) → describes d ≡ true
    go (inl some) = first (or_cases _ _ some)
    go (inr is) = at index refl is

-- ---- the schema is that of the history

attribute-same : (schema : List Datom) (h : List Entry) (e : ℕ) → SchemaStands schema h → is_attribute schema e ≡ is_attribute (facts h) e
attribute-same schema h e stands = ap is_some (attribute_stands schema h e stands)

pub allowed-same : (schema : List Datom) (h : List Entry) → SchemaStands schema h
    → (ds : List Datom) → are_allowed schema ds ≡ are_allowed (facts h) ds
allowed-same schema h stands [] = refl
allowed-same schema h stands (d ∷ ds) = rw (attribute-same schema h d.e stands, allowed-same schema h stands ds) refl

pub installed-same : (schema : List Datom) (h : List Entry) → SchemaStands schema h
    → (ds : List Datom) → list_all (λ d. is_attribute schema d.a) ds ≡ list_all (λ d. is_attribute (facts h) d.a) ds
installed-same schema h stands [] = refl
installed-same schema h stands (d ∷ ds) = rw (attribute-same schema h d.a stands, installed-same schema h stands ds) refl

whole-same : (schema : List Datom) (h : List Entry) (altered_ones : BTreeMap ℕ Altered) → SchemaStands schema h
    → (ds : List Datom) → are_whole schema altered_ones ds ≡ are_whole (facts h) altered_ones ds
whole-same schema h altered_ones stands [] = refl
whole-same schema h altered_ones stands (d ∷ ds) = rw (attribute-same schema h d.e stands, whole-same schema h altered_ones stands ds) refl

-- ---- whole attributes and names

module _ (h : List Entry) (ds schema : List Datom) (altered_ones : BTreeMap ℕ Altered) (lawful : IsLawful h)
    (stands : SchemaStands schema h) (rising : triples_rise Eavt ds ≡ true) (has : HasAltered altered_ones (facts h) (after h ds) ds) where
  apart : are_of_other_triples ds ≡ true
  apart = apart-from_triples Eavt ds rising

  -- the map tells of an entity that a datom describes
  told : (d : Datom) → Contains ds d → describes d ≡ true
      → option_map_or (λ (a : Altered). a.whole) (get nat_cmp altered_ones d.e) true ≡ is_whole (after h ds) d.e
  told d member describing =
      ap (λ o. option_map_or (λ (a : Altered). a.whole) o true)
      (has d.e
      ∙ ap (λ b. cond b (Some (altered (facts h) (after h ds) d.e)) None)
      (any_member (λ x. eqb x.e d.e && describes x) ds d member (and_from _ _ (eq-eqb d.e d.e refl) describing)))

  asks-describes : (d : Datom) → asks_whole (facts h) d ≡ true → describes d ≡ true
  asks-describes d asks =
      elim (or_cases (d.added && (says_attribute d && not (is_attribute (facts h) d.e)))
      (is_alteration d && is_attribute (facts h) d.e) asks) [
        | inl begins ↦ says-describes d (and_parts _ _ (and_parts _ _ begins).1).0
        | inr alters ↦ alters-describes d (and_parts _ _ alters).0
      ]

  asked : are_whole (facts h) altered_ones ds ≡ true → (d : Datom) → Contains ds d → asks_whole (facts h) d ≡ true
      → is_whole (after h ds) d.e ≡ true
  asked whole d member asks =
      sym (told d member (asks-describes d asks))
      ∙ or_true _ _ asks (member_passes
      (λ d. not (asks_whole (facts h) d) || option_map_or (λ (a : Altered). a.whole) (get nat_cmp altered_ones d.e) true) ds d whole member)

  whole-new : are_whole (facts h) altered_ones ds ≡ true → are_new_ones_whole (facts h) (after h ds) ≡ true
  whole-new whole =
      all_members (λ d. not (says_attribute d) || is_attribute (facts h) d.e || is_whole (after h ds) d.e) (after h ds)
      (λ d member. at d (says_attribute d) refl (is_attribute (facts h) d.e) refl (after_cases h ds apart d member))
    where
      at : (d : Datom) (b : Bool) → says_attribute d ≡ b → (c : Bool) → is_attribute (facts h) d.e ≡ c → IsAfter h ds apart d
          → (not b || c || is_whole (after h ds) d.e) ≡ true
      at d false says c before from = refl
      at d true says true before from = refl
      at d true says false before (stays member untold) =
          absurd (true≢false (sym (or_true _ _ says (member_passes (λ d. not (says_attribute d) || is_attribute (facts h) d.e) (facts h) d
          (described_ones h lawful) member)) ∙ before))
      at d true says false before (comes member added) =
          asked whole d member (or_left _ _ (and_from _ _ added (and_from _ _ says (ap not before))))

  whole-altered : are_whole (facts h) altered_ones ds ≡ true → are_altered_ones_whole (facts h) (after h ds) ds ≡ true
  whole-altered whole =
      all_members (λ d. not (is_alteration d && is_attribute (facts h) d.e) || is_whole (after h ds) d.e) ds
      (λ d member. at d member (is_alteration d && is_attribute (facts h) d.e) refl)
    where
      at : (d : Datom) → Contains ds d → (b : Bool) → (is_alteration d && is_attribute (facts h) d.e) ≡ b
          → (not b || is_whole (after h ds) d.e) ≡ true
      at d member false is = refl
      at d member true is = asked whole d member (or_right _ _ is)

  new-whole : are_new_ones_whole (facts h) (after h ds) ≡ true → are_altered_ones_whole (facts h) (after h ds) ds ≡ true
      → are_whole (facts h) altered_ones ds ≡ true
  new-whole new alters =
      all_members (λ d. not (asks_whole (facts h) d) || option_map_or (λ (a : Altered). a.whole) (get nat_cmp altered_ones d.e) true) ds
      (λ d member. at d member (asks_whole (facts h) d) refl)
    where
      begun : (d : Datom) → Contains (after h ds) d → says_attribute d ≡ true → is_attribute (facts h) d.e ≡ false
          → is_whole (after h ds) d.e ≡ true
      begun d member says none =
          sym
          (ap (λ b. not b || is_attribute (facts h) d.e || is_whole (after h ds) d.e) says ∙ ap (λ b. b || is_whole (after h ds) d.e) none)
          ∙ member_passes (λ d. not (says_attribute d) || is_attribute (facts h) d.e || is_whole (after h ds) d.e) (after h ds) d new member

      whole : (d : Datom) → Contains ds d → asks_whole (facts h) d ≡ true → is_whole (after h ds) d.e ≡ true
      whole d member asks =
          elim (or_cases (d.added && (says_attribute d && not (is_attribute (facts h) d.e)))
          (is_alteration d && is_attribute (facts h) d.e) asks) [
            | inl begins ↦ (let first = and_parts _ _ begins in let rest = and_parts _ _ first.1 in
                begun d (is_in_after h ds apart d (comes member first.0)) rest.0 (not-true _ rest.1))
            | inr alteration ↦
                or_true _ _ alteration
                (member_passes (λ d. not (is_alteration d && is_attribute (facts h) d.e) || is_whole (after h ds) d.e) ds d alters member)
          ]

      at : (d : Datom) → Contains ds d → (b : Bool) → asks_whole (facts h) d ≡ b
          → (not b || option_map_or (λ (a : Altered). a.whole) (get nat_cmp altered_ones d.e) true) ≡ true
      at d member false is = refl
      at d member true is = told d member (asks-describes d is) ∙ whole d member is

  pub whole-is : are_whole schema altered_ones ds
      ≡ (are_new_ones_whole (facts h) (after h ds) && are_altered_ones_whole (facts h) (after h ds) ds)
  whole-is =
      whole-same schema h altered_ones stands ds
      ∙ both_ways _ _ (λ whole. and_from _ _ (whole-new whole) (whole-altered whole))
      (λ both. let parts = and_parts _ _ both in new-whole parts.0 parts.1)

  pub reserved-is : add_no_reserved_names ds ≡ keeps_reserved_names (after h ds)
  reserved-is =
      both_ways _ _
      (λ none. all_members (λ d. not (has_reserved_name d)) (after h ds) (λ d member. old_and_new none d (after_cases h ds apart d member)))
      (λ none. all_members (λ d. not (d.added && has_reserved_name d)) ds (λ d member. at none d member d.added refl))
    where
      old_and_new : add_no_reserved_names ds ≡ true → (d : Datom) → IsAfter h ds apart d → not (has_reserved_name d) ≡ true
      old_and_new none d (stays member untold) = member_passes (λ d. not (has_reserved_name d)) (facts h) d (reserved_names h lawful) member
      old_and_new none d (comes member added) =
          sym (ap (λ b. not (b && has_reserved_name d)) added) ∙ member_passes (λ d. not (d.added && has_reserved_name d)) ds d none member

      at : keeps_reserved_names (after h ds) ≡ true → (d : Datom) → Contains ds d → (b : Bool) → d.added ≡ b
          → not (b && has_reserved_name d) ≡ true
      at none d member false is = refl
      at none d member true is =
          member_passes (λ d. not (has_reserved_name d)) (after h ds) d none (is_in_after h ds apart d (comes member is))

and_parted : (a b c d : Bool) → ((a && b) && (c && d)) ≡ (((a && b) && c) && d)
and_parted true true true d = refl
and_parted true true false d = refl
and_parted true false c d = refl
and_parted false b c d = refl

pub typed-same : (schema : List Datom) (h : List Entry) → SchemaStands schema h
    → (ds : List Datom) → are_typed schema ds ≡ are_typed (facts h) ds
typed-same schema h stands [] = refl
typed-same schema h stands (d ∷ ds) =
    ap (λ o. option_map_or (λ (attribute : Attribute). is_of_type attribute.kind d.v) o false && are_typed schema ds)
    (attribute_stands schema h d.a stands)
    ∙ ap (λ b. option_map_or (λ (attribute : Attribute). is_of_type attribute.kind d.v) (attribute_of (facts h) d.a) false && b)
    (typed-same schema h stands ds)

-- the ninth law
pub nine : (h : List Entry) (entry : Entry) (schema : List Datom) (altered_ones : BTreeMap ℕ Altered) → IsLawful h → SchemaStands schema h
    → triples_rise Eavt entry.datoms ≡ true
    → HasAltered altered_ones (facts h) (after h entry.datoms) entry.datoms
    → keeps_attributes schema altered_ones entry
    ≡ (has_whole_attributes h entry && has_allowed_changes h entry && has_no_reserved_names h entry && has_own_instant_alone h entry)
nine h entry schema altered_ones lawful stands rising has =
    let ds = entry.datoms in
    and_parted (are_whole schema altered_ones ds) (are_allowed schema ds) (add_no_reserved_names ds) (own_instant_alone entry ds)
    ∙ ap (λ b. ((b && are_allowed schema ds) && add_no_reserved_names ds) && own_instant_alone entry ds)
    (whole-is h ds schema altered_ones lawful stands rising has)
    ∙ ap (λ b. ((has_whole_attributes h entry && b) && add_no_reserved_names ds) && own_instant_alone entry ds)
    (allowed-same schema h stands ds)
    ∙ ap (λ b. ((has_whole_attributes h entry && has_allowed_changes h entry) && b) && own_instant_alone entry ds)
    (reserved-is h ds schema altered_ones lawful stands rising has)
