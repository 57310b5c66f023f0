-- The values of an attribute of type ref are entities, so that the first entities are those of the first datoms.
use Rattle.std.proofs.Common.{◌≡◌, ◌∙◌, ℕ, zero, suc, true, false, ◌&&◌, List, [], ◌∷◌, take, map, refl, sym, ap, subst, Option, Some}
use Rattle.std.proofs.Common.{None, eqb}
use Rattle.std.specs.Prelude.{filter, filter_map, Contains}
use Rattle.std.specs.Option.{option_map_or}
use Rattle.std.proofs.lemmas.Bool.{true≢false, and_parts, eqb-true}
use Rattle.fb_values.specs.declared.facts.Datom.{Datom}
use Rattle.fb_values.specs.declared.facts.Value.{Value}
use Rattle.fb_values.specs.declared.facts.Value.TheVariants.{Keyword, Str, Bool, Long, Ref, Instant, Uuid, Symbol, Uri}
use Rattle.fb_numbers.specs.Numbers.{type_ref}
use Rattle.fb_model.specs.History.{said}
use Rattle.fb_model.specs.Facts.{facts as facts_of, values_of}
use Rattle.fb_model.specs.Lawful.{IsLawful}
use Rattle.fb_model.specs.Schema.{Attribute, attribute_of, is_about, is_ref, entity_in}
use Rattle.fb_model.specs.Types.{type_of, is_of_type, is_well_formed, is_short_enough}
use Rattle.fb_model.proofs.KnownFacts.{is_typed, said_typed}
use Rattle.fb_model.proofs.Members.{here, there, kept, member_passes}
use Rattle.view_model.proofs.Views.{seen_is_said}
use Rattle.fb_db.specs.declared.db.Db.{Db}
use Rattle.fb_db.specs.Seen.{window_of}
use Rattle.pull_model.specs.Found as model
use Rattle.fb_pull.specs.Views.{Sees}

abbrev IsRef : Value → Type 0
IsRef v = (n : ℕ) × (v ≡ Ref n)

ref_by_type : (v : Value) → eqb (type_of v) type_ref ≡ true → IsRef v
ref_by_type (Keyword text) is = absurd (true≢false (sym is))
ref_by_type (Str text) is = absurd (true≢false (sym is))
ref_by_type (Bool b) is = absurd (true≢false (sym is))
ref_by_type (Long n) is = absurd (true≢false (sym is))
ref_by_type (Ref n) is = (n, refl)
ref_by_type (Instant n) is = absurd (true≢false (sym is))
ref_by_type (Uuid n) is = absurd (true≢false (sym is))
ref_by_type (Symbol text) is = absurd (true≢false (sym is))
ref_by_type (Uri text) is = absurd (true≢false (sym is))

typed_ref : (found : Option Attribute) (v : Value) → option_map_or (λ attribute. is_of_type attribute.kind v) found false ≡ true
    → option_map_or (λ attribute. eqb attribute.kind type_ref) found false ≡ true → IsRef v
typed_ref None v typed ref = absurd (true≢false (sym typed))
typed_ref (Some attribute) v typed ref =
    let short = and_parts (eqb (type_of v) attribute.kind && is_well_formed v) (is_short_enough v) typed in
    let formed = and_parts (eqb (type_of v) attribute.kind) (is_well_formed v) short.0 in
    ref_by_type v (subst (λ (kind : ℕ). eqb (type_of v) kind ≡ true) (eqb-true attribute.kind type_ref ref) formed.0)

first_refs : (ds : List Datom) → ((d : Datom) → Contains ds d → IsRef d.v) → (n : ℕ)
    → filter_map entity_in (map (λ (d : Datom). d.v) (take n ds)) ≡ take n (filter_map entity_in (map (λ (d : Datom). d.v) ds))
first_refs [] all zero = refl
first_refs [] all (suc n) = refl
first_refs (d ∷ ds) all zero = refl
first_refs (d ∷ ds) all (suc n) =
    let own = all d (here d ds) in
    ap (λ (v : Value). filter_map entity_in (v ∷ map (λ (x : Datom). x.v) (take n ds))) own.1
    ∙ ap (λ (l : List ℕ). own.0 ∷ l) (first_refs ds (λ x member. all x (there d x ds member)) n)
    ∙ sym (ap (λ (v : Value). take (suc n) (filter_map entity_in (v ∷ map (λ (x : Datom). x.v) ds))) own.1)

module _ {S : Type 0} (db : Db S) (Selects : Datom → Type 0) (facts : model.Db) (sees : Sees db Selects facts)
    (lawful : IsLawful db.snapshot.entries)
    (e a : ℕ) (ref : is_ref (facts_of db.snapshot.entries) a ≡ true) where
  under_refs : (d : Datom) → Contains (filter (is_about e a) facts.seen) d → IsRef d.v
  under_refs d member =
      let own = kept (is_about e a) facts.seen d member in
      let view = (sees.seen_is.members d).0 own.member in
      let typed = member_passes (is_typed (facts_of db.snapshot.entries)) (said db.snapshot.entries) d
      (said_typed db.snapshot.entries lawful) (seen_is_said db.snapshot.entries (window_of db) d view.is_seen).member in
      let same : d.a ≡ a = eqb-true d.a a (and_parts (eqb d.e e) (eqb d.a a) own.passes).1 in
      typed_ref (attribute_of (facts_of db.snapshot.entries) d.a) d.v typed
      (subst (λ (n : ℕ). is_ref (facts_of db.snapshot.entries) n ≡ true) (sym same) ref)

  pub first_entities : (most : ℕ) → filter_map entity_in (map (λ (d : Datom). d.v) (take most (filter (is_about e a) facts.seen))) ≡ take
      most (filter_map entity_in (values_of facts.seen e a))
  first_entities most = first_refs (filter (is_about e a) facts.seen) under_refs most
