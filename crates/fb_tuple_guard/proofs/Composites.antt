-- What lists of names bar, by the composites that they give.
use Rattle.std.proofs.Common.{◌≡◌, ℕ, ◌<◌, Bool, true, false, cond, ◌&&◌, List, [], ◌∷◌, length, refl, ap, sym, ◌∙◌, arith, Option, Some, None}
use Rattle.std.specs.Prelude.{option_map, option_and_then}
use Rattle.std.specs.Option.{option_map_or}
use Rattle.std.proofs.lemmas.Bool.{true≢false}
use Rattle.fb_values.specs.declared.facts.Datom.{Datom}
use Rattle.fb_values.specs.declared.facts.Entry.{Entry}
use Rattle.fb_model.specs.Facts.{facts}
use Rattle.fb_model.specs.Schema.{attribute_named}
use Rattle.tx_after.specs.After.{after}
use Rattle.tuple_model.specs.Composite.{is_composite, attributes_named}
use Rattle.tuple_model.specs.Given.{if_composite}
use Rattle.tuple_model.specs.UniqueTuples.{are_shared, bars_list}
use Rattle.fb_tuple_guard.specs.Sharing.{composite_named}

-- ---- by a schema that says of names what the facts say

module _ (schema facts : List Datom) (same : (name : List ℕ) → attribute_named schema name ≡ attribute_named facts name) where
  pub named-same : (names : List (List ℕ)) → attributes_named schema names ≡ attributes_named facts names
  named-same [] = refl
  named-same (name ∷ names) =
      λ i. option_and_then (λ attribute. option_map (λ rest. attribute.id ∷ rest) (named-same names i)) (same name i)

  pub composite_read : (names : List (List ℕ)) (read : Option (List ℕ)) → read ≡ attributes_named schema names
      → option_and_then (if_composite facts) read ≡ composite_named facts names
  composite_read names read is = ap (option_and_then (if_composite facts)) (is ∙ named-same names)

-- ---- what is barred

module _ (h : List Entry) (changes : List Datom) (names : List (List ℕ)) where
  abbrev bars : Option (List ℕ) → Bool
  bars found = option_map_or (λ attrs. is_composite (facts h) attrs && are_shared (after h changes) changes attrs) found false

  record IsGiven (attrs : List ℕ) : Type 0 where
    named : attributes_named (facts h) names ≡ Some attrs
    composite : is_composite (facts h) attrs ≡ true

  given : (attrs : List ℕ) → Some attrs ≡ composite_named (facts h) names → IsGiven attrs
  given attrs is = go (attributes_named (facts h) names) refl is
    where
      fit : (found : List ℕ) → attributes_named (facts h) names ≡ Some found → (b : Bool) → is_composite (facts h) found ≡ b
          → Some attrs ≡ cond b (Some found) None → IsGiven attrs
      fit found named true fits same =
          let one : found ≡ attrs = cc in
          record { named = named ∙ ap Some one; composite = ap (is_composite (facts h)) (sym one) ∙ fits }
      fit found named false fits same = absurd (cc)

      go : (found : Option (List ℕ)) → attributes_named (facts h) names ≡ found → Some attrs ≡ option_and_then (if_composite (facts h)) found
          → IsGiven attrs
      go None named same = absurd (cc)
      go (Some found) named same = fit found named (is_composite (facts h) found) refl same

  pub bars_given : (attrs : List ℕ) → Some attrs ≡ composite_named (facts h) names
      → bars_list h changes names ≡ are_shared (after h changes) changes attrs
  bars_given attrs is =
      let gives = given attrs is in ap bars gives.named ∙ ap (λ b. b && are_shared (after h changes) changes attrs) gives.composite

  pub bars_nothing : None ≡ composite_named (facts h) names → bars_list h changes names ≡ false
  bars_nothing is = go (attributes_named (facts h) names) refl is
    where
      fit : (found : List ℕ) (b : Bool) → None ≡ cond b (Some found) None → (b && are_shared (after h changes) changes found) ≡ false
      fit found true same = absurd (cc)
      fit found false same = refl

      go : (found : Option (List ℕ)) → attributes_named (facts h) names ≡ found → None ≡ option_and_then (if_composite (facts h)) found
          → bars_list h changes names ≡ false
      go None named same = ap bars named
      go (Some found) named same = ap bars named ∙ fit found (is_composite (facts h) found) same

  pub given_some : (attrs : List ℕ) → Some attrs ≡ composite_named (facts h) names → 0 < length attrs
  given_some attrs is = some attrs (given attrs is).composite
    where
      some : (ids : List ℕ) → is_composite (facts h) ids ≡ true → 0 < length ids
      some [] fits = absurd (true≢false (sym fits))
      some (b ∷ ids) fits = omega arith
