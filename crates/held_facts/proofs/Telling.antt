-- From the lists of the three maps to what a history tells.
use Rattle.std.proofs.Common.{◌≡◌, ℕ, Bool, true, false, List, map, refl, ap, sym, ◌∙◌}
use Rattle.std.specs.Prelude.{◌↔◌, filter, Contains, IsTrue}
use Rattle.std.specs.List.{list_any}
use Rattle.std.proofs.lemmas.Bool.{true≢false}
use Rattle.fb_values.specs.declared.facts.Datom.{Datom}
use Rattle.fb_values.specs.declared.facts.Entry.{Entry}
use Rattle.fb_values.specs.declared.facts.Value.{Value}
use Rattle.fb_values.specs.declared.indexes.Order.{Order}
use Rattle.fb_values.specs.declared.indexes.Order.TheVariants.{Eavt, Aevt, Vaet}
use Rattle.fb_values.specs.Rising.{IsRising}
use Rattle.fb_model.specs.History.{said}
use Rattle.fb_model.specs.Facts.{is_of, holds, facts}
use Rattle.fb_model.specs.Schema.{is_about}
use Rattle.fb_model.proofs.Members.{any_member, some_member, kept as passed, keep}
use Rattle.fb_model.proofs.Triples.{holds-facts}
use Rattle.fb_facts.specs.FactLists.{facts_in, values_of, facts_of, refs_to, facts_under, is_of_entity, is_ref_to, is_under}
use Rattle.held_facts.specs.declared.fact_maps.FactMaps.{FactMaps}
use Rattle.held_facts.specs.FactMaps.{HasFacts, facts_by_entity, facts_by_attribute, facts_by_value}
use Rattle.held_facts.proofs.Maps.{is_told, rising_filtered, by_entity_members, by_attribute_members, by_value_members, by_entity_rises}
use Rattle.held_facts.proofs.Maps.{by_attribute_rises, by_value_rises}

members_filtered : (p : Datom → Bool) (ds es : List Datom) → ((d : Datom) → Contains ds d ↔ Contains es d) → (d : Datom)
    → Contains (filter p ds) d ↔ (Contains es d × IsTrue (p d))
members_filtered p ds es same d = (
  λ member. let is = passed p ds d member in ((same d).0 is.member, is.passes),
  λ is. keep p ds d ((same d).1 is.0) is.1,
)

-- ---- the lists

told : (h : List Entry) (order : Order) (p : Datom → Bool) (ds : List Datom) → IsRising order ds
    → ((d : Datom) → Contains ds d ↔ Contains (facts h) d) → filter p ds ≡ facts_in order p h
told h order p ds rising same = is_told h order p (filter p ds) (rising_filtered order p ds rising) (members_filtered p ds (facts h) same)

module _ (h : List Entry) (kept : FactMaps) (has : HasFacts (said h) kept) where
  told_by_entity : (p : Datom → Bool) → filter p (facts_by_entity kept) ≡ facts_in Eavt p h
  told_by_entity p = told h Eavt p (facts_by_entity kept) (by_entity_rises kept has.entities_ordered) (by_entity_members (said h) kept has)

  pub told_values : (e a : ℕ) → map (λ d. d.v) (filter (is_about e a) (facts_by_entity kept)) ≡ values_of h e a
  told_values e a = ap (map (λ d. d.v)) (told_by_entity (is_about e a))

  pub told_facts : (e : ℕ) → filter (is_of_entity e) (facts_by_entity kept) ≡ facts_of h e
  told_facts e = told_by_entity (is_of_entity e)

  pub told_under : (a : ℕ) → filter (is_under a) (facts_by_attribute kept) ≡ facts_under h a
  told_under a =
      told h Aevt (is_under a) (facts_by_attribute kept) (by_attribute_rises kept has.attributes_ordered)
      (by_attribute_members (said h) kept has)

  pub told_refs : (e : ℕ) → filter (is_ref_to e) (facts_by_value kept) ≡ refs_to h e
  told_refs e =
      told h Vaet (is_ref_to e) (facts_by_value kept) (by_value_rises kept has.values_ordered) (by_value_members (said h) kept has)

-- ---- whether a triple holds

any_same : (p : Datom → Bool) (ds es : List Datom) → ((d : Datom) → Contains ds d ↔ Contains es d) → list_any p ds ≡ list_any p es
any_same p ds es same = go (list_any p ds) refl (list_any p es) refl
  where
    go : (b : Bool) → list_any p ds ≡ b → (c : Bool) → list_any p es ≡ c → b ≡ c
    go false is false also = refl
    go true is true also = refl
    go true is false also =
        let one = some_member p ds is in absurd (true≢false (sym (any_member p es one.0 ((same one.0).0 one.1) one.2) ∙ also))
    go false is true also =
        let one = some_member p es also in absurd (true≢false (sym (any_member p ds one.0 ((same one.0).1 one.1) one.2) ∙ is))

pub told_holds : (h : List Entry) (kept : FactMaps) → HasFacts (said h) kept → (e a : ℕ) (v : Value)
    → list_any (is_of e a v) (facts_by_entity kept) ≡ holds h e a v
told_holds h kept has e a v =
    any_same (is_of e a v) (facts_by_entity kept) (facts h) (by_entity_members (said h) kept has) ∙ sym (holds-facts h e a v)
