-- The attribute that a schema has under a name, and what is found under it.
use Rattle.std.proofs.Common.{◌≡◌, ◌∙◌, ℕ, ◌+◌, Bool, true, false, cond, List, take, map, sym, ap, subst, Option, Some, None, eqb}
use Rattle.std.specs.Prelude.{option_and_then, filter_map, not}
use Rattle.std.specs.Option.{option_map_or}
use Rattle.edn_values.specs.Values.{form_of_value}
use Rattle.fb_values.specs.declared.facts.Datom.{Datom}
use Rattle.fb_values.specs.declared.facts.Value.{Value}
use Rattle.fb_numbers.specs.Numbers.{type_ref}
use Rattle.fb_model.specs.Facts.{values_of}
use Rattle.fb_model.specs.Schema.{Attribute, attribute_from, attribute_of, attribute_named, named, is_ref, entity_in}
use Rattle.tx_model.specs.Asks.{without_underscore}
use Rattle.pull_model.specs.Patterns.{Options, Limit, is_reversed}
use Rattle.pull_pattern.specs.Names.{forward_of}
use Rattle.pull_model.specs.Found as model
use Rattle.pull_model.specs.Made.{limited}
use Rattle.pull_model.specs.Tree.{limit_for}
use Rattle.fb_pull.specs.declared.found.Found.{Found}
use Rattle.fb_pull.specs.declared.found.Found.TheVariants.{Absent}
use Rattle.fb_pull.specs.Finding.{Finds, upto, most_in, most_entities}
use Rattle.fb_pull.proofs.Limits.{upto-limited, most-limited}

id_from : (e : ℕ) (name : Option (List ℕ)) (kind count uniqueness : Option ℕ) (component indexed : Bool) (attribute : Attribute)
    → attribute_from e name kind count uniqueness component indexed ≡ Some attribute → attribute.id ≡ e
id_from e None kind count uniqueness component indexed attribute is = absurd (cc)
id_from e (Some name) None count uniqueness component indexed attribute is = absurd (cc)
id_from e (Some name) (Some kind) None uniqueness component indexed attribute is = absurd (cc)
id_from e (Some name) (Some kind) (Some count) uniqueness component indexed attribute is = cc

pub own_id : (schema : List Datom) (e : ℕ) (attribute : Attribute) → attribute_of schema e ≡ Some attribute → attribute.id ≡ e
own_id schema e attribute is = id_from e _ _ _ _ _ _ attribute is

pub named_is : (schema : List Datom) (name : List ℕ) (attribute : Attribute) → attribute_named schema name ≡ Some attribute
    → attribute_of schema attribute.id ≡ Some attribute
named_is schema name attribute is = go (named schema name) is
  where
    go : (found : Option ℕ) → option_and_then (attribute_of schema) found ≡ Some attribute
        → attribute_of schema attribute.id ≡ Some attribute
    go None none = absurd (cc)
    go (Some e) there = ap (attribute_of schema) (id_from e _ _ _ _ _ _ attribute there) ∙ there

pub is_ref_of : (schema : List Datom) (attribute : Attribute) → attribute_of schema attribute.id ≡ Some attribute
    → eqb attribute.kind type_ref ≡ true → is_ref schema attribute.id ≡ true
is_ref_of schema attribute known ref = ap (λ (o : Option Attribute). option_map_or (λ a. eqb a.kind type_ref) o false) known ∙ ref

-- ---- forward

module _ (facts : model.Db) (e : ℕ) (attribute : Attribute) (options : Options) (maps : ℕ) where
  abbrev forward : Bool → model.Found
  forward ref =
      cond ref (model.entities attribute.many attribute.component (filter_map entity_in (values_of facts.seen e attribute.id)))
      (model.values attribute.many (values_of facts.seen e attribute.id))

  pub finds_refs : (found : Found) → eqb attribute.kind type_ref ≡ true → Finds (forward true) options maps found
      → Finds (model.found_forward facts e (Some attribute)) options maps found
  finds_refs found ref finds = subst (λ b. Finds (forward b) options maps found) (sym ref) finds

  pub finds_values : (found : Found) → eqb attribute.kind type_ref ≡ false → Finds (forward false) options maps found
      → Finds (model.found_forward facts e (Some attribute)) options maps found
  finds_values found plain finds = subst (λ b. Finds (forward b) options maps found) (sym plain) finds

  abbrev backward : Bool → model.Found
  backward ref = cond ref (model.entities (not attribute.component) false (model.referring facts.seen e attribute.id)) model.absent

  pub finds_back : (found : Found) → eqb attribute.kind type_ref ≡ true → Finds (backward true) options maps found
      → Finds (model.found_backward facts e (Some attribute)) options maps found
  finds_back found ref finds = subst (λ b. Finds (backward b) options maps found) (sym ref) finds

  pub finds_none : eqb attribute.kind type_ref ≡ false → Finds (model.found_backward facts e (Some attribute)) options maps Absent
  finds_none plain = subst (λ b. Finds (backward b) options maps Absent) (sym plain) tt

  pub entities_limited : (most : ℕ) (limit : Limit) (several : Bool) (ns : List ℕ) (list : List ℕ) → most ≡ most_entities limit maps
      → limit ≡ limit_for several options → list ≡ take most ns
      → list ≡ take (maps + 1) (limited (limit_for several options) ns)
  entities_limited most limit several ns list most_is limit_is is =
      is ∙ ap (λ n. take n ns) most_is ∙ most-limited limit maps ns ∙ ap (λ (l : Limit). take (maps + 1) (limited l ns)) limit_is

  pub values_limited : (most : Option ℕ) (limit : Limit) (several : Bool) (vs : List Value) → most ≡ most_in limit
      → limit ≡ limit_for several options
      → map form_of_value (upto most vs) ≡ map form_of_value (limited (limit_for several options) vs)
  values_limited most limit several vs most_is limit_is =
      ap (λ (o : Option ℕ). map form_of_value (upto o vs)) most_is ∙ ap (map form_of_value) (upto-limited limit vs)
      ∙ ap (λ (l : Limit). map form_of_value (limited l vs)) limit_is

-- ---- by a name

module _ (facts : model.Db) (e : ℕ) (name : List ℕ) (options : Options) (maps : ℕ) where
  pub by_forward : forward_of name ≡ None → (o : Option Attribute) → attribute_named facts.schema name ≡ o → (found : Found)
      → Finds (model.found_forward facts e o) options maps found
      → Finds (model.found facts e name) options maps found
  by_forward plain o named_as found finds = go (is_reversed name) plain
    where
      go : (b : Bool) → cond b (Some (without_underscore name)) None ≡ None
          → Finds (cond b (model.found_backward facts e (attribute_named facts.schema (cond b (without_underscore name) name)))
          (model.found_forward facts e (attribute_named facts.schema (cond b (without_underscore name) name)))) options maps found
      go true fails = absurd (cc)
      go false is = subst (λ (a : Option Attribute). Finds (model.found_forward facts e a) options maps found) (sym named_as) finds

  pub by_reversed : (word : List ℕ) → forward_of name ≡ Some word → (o : Option Attribute) → attribute_named facts.schema word ≡ o
      → (found : Found) → Finds (model.found_backward facts e o) options maps found
      → Finds (model.found facts e name) options maps found
  by_reversed word reversed o named_as found finds = go (is_reversed name) reversed
    where
      go : (b : Bool) → cond b (Some (without_underscore name)) None ≡ Some word
          → Finds (cond b (model.found_backward facts e (attribute_named facts.schema (cond b (without_underscore name) name)))
          (model.found_forward facts e (attribute_named facts.schema (cond b (without_underscore name) name)))) options maps found
      go true is =
          let same : without_underscore name ≡ word = cc in
          subst (λ (w : List ℕ). Finds (model.found_backward facts e (attribute_named facts.schema w)) options maps found) (sym same)
          (subst (λ (a : Option Attribute). Finds (model.found_backward facts e a) options maps found) (sym named_as) finds)
      go false fails = absurd (cc)
