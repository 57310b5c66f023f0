-- How one more datom changes the tables.
use Rattle.std.proofs.Common.{◌≡◌, ℕ, ◌<◌, zero, suc, Bool, true, false, cond, List, [], ◌∷◌, ◌++◌, length, get_or, eqb, refl, ap, sym, ◌∙◌}
use Rattle.std.proofs.Common.{Option, Some, None, arith}
use Rattle.std.specs.Prelude.{filter, nat_eq}
use Rattle.std.specs.Option.{option_map, option_map_or}
use Rattle.std.specs.Ordering.{nat_cmp}
use Rattle.std.proofs.lemmas.Bool.{eqb-true}
use Rattle.std.proofs.lemmas.Cmp.{nat_cmp_total}
use Rattle.fb_values.specs.declared.facts.Datom.{Datom}
use Rattle.fb_values.specs.declared.indexes.Order.{Order}
use Rattle.fb_values.specs.declared.indexes.Order.TheVariants.{Eavt, Aevt, Avet, Vaet}
use Rattle.fb_covers.specs.Coverage.{Coverage, covers as held}
use Rattle.fb_model.specs.Facts.{standing}
use Rattle.fb_model.specs.Schema.{attribute_of, covers, is_held}
use Rattle.shared_map.specs.Entries.{get, put, removed, IsRising}
use Rattle.shared_map.proofs.Lookups.{get-put, get-removed}
use Rattle.fb_schema.specs.declared.attribute.Attribute.{Attribute}
use Rattle.fb_schema.specs.Parts.{model_attribute}
use Rattle.fb_schema.specs.Tables.{HasAttributes, HasCoverage}
use Rattle.fb_schema.proofs.Meeting.{is_eq-nat_cmp}
use Rattle.fb_schema.proofs.Gained.{attribute_of-other}

pub attribute-put : (attributes : List (ℕ × Attribute)) (e : ℕ) (found : Attribute) (k : ℕ)
    → get nat_cmp (put nat_cmp (e, found) attributes) k ≡ cond (eqb e k) (Some found) (get nat_cmp attributes k)
attribute-put attributes e found k =
    get-put nat_cmp_total (e, found) attributes k ∙ ap (λ b. cond b (Some found) (get nat_cmp attributes k)) (is_eq-nat_cmp e k)

pub attribute-removed : (attributes : List (ℕ × Attribute)) (e k : ℕ) → IsRising nat_cmp attributes
    → get nat_cmp (removed nat_cmp e attributes) k ≡ cond (eqb e k) None (get nat_cmp attributes k)
attribute-removed attributes e k rising =
    get-removed nat_cmp_total e attributes k rising ∙ ap (λ b. cond b None (get nat_cmp attributes k)) (is_eq-nat_cmp e k)

pub filter-at : (p : Datom → Bool) (ds : List Datom) (i : ℕ) (x : Datom) → i < length (filter p ds) → p (get_or (filter p ds) i x) ≡ true
filter-at p [] i x within = absurd (omega arith)
filter-at p (d ∷ ds) i x within = go (p d) refl i within (λ j. filter-at p ds j x)
  where
    go : (b : Bool) → p d ≡ b → (j : ℕ) → j < length (cond b (d ∷ filter p ds) (filter p ds))
        → ((k : ℕ) → k < length (filter p ds) → p (get_or (filter p ds) k x) ≡ true)
        → p (get_or (cond b (d ∷ filter p ds) (filter p ds)) j x) ≡ true
    go true is zero here next = is
    go true is (suc j) later next = next j (omega arith)
    go false is j later next = next j later

one_other : (d : Datom) (k : ℕ) → nat_eq d.e k ≡ false → filter (λ x. nat_eq x.e k) (d ∷ []) ≡ []
one_other d k other = rw other refl

pub attributes-step : (old new : List (ℕ × Attribute)) (facts after : List Datom) (d : Datom) (found : Option Attribute)
    → ((k : ℕ) → get nat_cmp new k ≡ cond (eqb d.e k) found (get nat_cmp old k))
    → option_map model_attribute found ≡ attribute_of after d.e → after ≡ standing (facts ++ d ∷ []) → standing facts ≡ facts
    → HasAttributes old facts → HasAttributes new after
attributes-step old new facts after d found updates is stands still has e =
    ap (option_map model_attribute) (updates e) ∙ go (eqb d.e e) refl
  where
    go : (b : Bool) → eqb d.e e ≡ b → option_map model_attribute (cond b found (get nat_cmp old e)) ≡ attribute_of after e
    go true same = is ∙ ap (attribute_of after) (eqb-true d.e e same)
    go false other = has e ∙ sym (ap (λ l. attribute_of l e) stands ∙ attribute_of-other e facts (d ∷ []) (one_other d e other) still)

pub covers-step : (old new : Coverage) (facts after : List Datom) (d : Datom) (found : Option Attribute) (avet vaet : Bool)
    → ((a : ℕ) → held new Avet a ≡ cond (eqb d.e a) avet (held old Avet a))
    → ((a : ℕ) → held new Vaet a ≡ cond (eqb d.e a) vaet (held old Vaet a))
    → avet ≡ option_map_or (is_held Avet) (option_map model_attribute found) false
    → vaet ≡ option_map_or (is_held Vaet) (option_map model_attribute found) false
    → option_map model_attribute found ≡ attribute_of after d.e → after ≡ standing (facts ++ d ∷ []) → standing facts ≡ facts
    → HasCoverage old facts → HasCoverage new after
covers-step old new facts after d found avet vaet in_avet in_vaet avet_is vaet_is is stands still has = at
  where
    other_is : (a : ℕ) → eqb d.e a ≡ false → attribute_of facts a ≡ attribute_of after a
    other_is a other = sym (ap (λ l. attribute_of l a) stands ∙ attribute_of-other a facts (d ∷ []) (one_other d a other) still)

    avet_at : (a : ℕ) (b : Bool) → eqb d.e a ≡ b → cond b avet (held old Avet a) ≡ covers after Avet a
    avet_at a true same = avet_is ∙ ap (λ o. option_map_or (is_held Avet) o false) (is ∙ ap (attribute_of after) (eqb-true d.e a same))
    avet_at a false other = has Avet a ∙ ap (λ o. option_map_or (is_held Avet) o false) (other_is a other)

    vaet_at : (a : ℕ) (b : Bool) → eqb d.e a ≡ b → cond b vaet (held old Vaet a) ≡ covers after Vaet a
    vaet_at a true same = vaet_is ∙ ap (λ o. option_map_or (is_held Vaet) o false) (is ∙ ap (attribute_of after) (eqb-true d.e a same))
    vaet_at a false other = has Vaet a ∙ ap (λ o. option_map_or (is_held Vaet) o false) (other_is a other)

    at : (order : Order) (a : ℕ) → held new order a ≡ covers after order a
    at Eavt a = refl
    at Aevt a = refl
    at Avet a = in_avet a ∙ avet_at a (eqb d.e a) refl
    at Vaet a = in_vaet a ∙ vaet_at a (eqb d.e a) refl
