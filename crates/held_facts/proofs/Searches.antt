-- A search of a map by its keys is one of the facts that it lists.
use Rattle.std.proofs.Common.{◌≡◌, ℕ, Bool, true, false, cond, ◌||◌, List, [], ◌∷◌, map, Option, Some, None, refl, ap, ◌∙◌}
use Rattle.std.specs.Prelude.{find, is_some}
use Rattle.std.specs.List.{list_any}
use Rattle.std.specs.Option.{option_map}
use Rattle.std.specs.Bool.{then_some}
use Rattle.std.specs.Map.{keys_of}
use Rattle.std.specs.BTreeMap.{BTreeMap, get, is_at}
use Rattle.std.specs.Cmp.{eq_by_cmp_equiv}
use Rattle.std.proofs.lemmas.Map.Made.{is_some-lookup}
use Rattle.fb_values.specs.declared.facts.Value.{Value}
use Rattle.fb_model.specs.Facts.{is_of}
use Rattle.held_facts.specs.FactMaps.{place_cmp, fact_of_entity}
use Rattle.held_facts.proofs.Steps.{of_entity}
use Rattle.held_facts.proofs.Maps.{place_total}

module _ {K X : Type 0} (shows : K × ℕ → X) (passes : X → Bool) (test : K → Bool) (same : (p : K × ℕ) → test p.0 ≡ passes (shows p)) where
  pub any_by_key : (es : List (K × ℕ)) → list_any test (keys_of es) ≡ list_any passes (map shows es)
  any_by_key [] = refl
  any_by_key (p ∷ es) = ap (λ b. b || list_any test (keys_of es)) (same p) ∙ ap (λ b. passes (shows p) || b) (any_by_key es)

  find_by_key : {Y : Type 0} (part : K → Y) (read : X → Y) → ((p : K × ℕ) → part p.0 ≡ read (shows p)) → (es : List (K × ℕ))
      → option_map part (find test (keys_of es)) ≡ option_map read (find passes (map shows es))
  find_by_key part read reads [] = refl
  find_by_key part read reads (p ∷ es) =
      ap (λ b. option_map part (cond b (Some p.0) (find test (keys_of es)))) (same p)
      ∙ go (passes (shows p)) (find_by_key part read reads es)
    where
      go : (b : Bool) → option_map part (find test (keys_of es)) ≡ option_map read (find passes (map shows es))
          → option_map part (cond b (Some p.0) (find test (keys_of es))) ≡ option_map read
          (cond b (Some (shows p)) (find passes (map shows es)))
      go false rest = rest
      go true rest = ap Some (reads p)

  -- what the first key that passes gives
  pub found_by_key : {Y : Type 0} (part : K → Y) (read : X → Y) → ((p : K × ℕ) → part p.0 ≡ read (shows p))
      → (es : List (K × ℕ)) (found : Option K) → found ≡ find test (keys_of es)
      → option_map part found ≡ option_map read (find passes (map shows es))
  found_by_key part read reads es found is = ap (option_map part) is ∙ find_by_key part read reads es

-- what is read from a thing that may be taken
pub read_taken : {X Y : Type 0} (read : X → Y) (b : Bool) (x : X) → then_some b (read x) ≡ option_map read (cond b (Some x) None)
read_taken read false x = refl
read_taken read true x = refl

at_triple : (e a : ℕ) (v : Value) (p : (ℕ × ℕ × Value) × ℕ) → is_at (place_cmp (e, a, v)) p.0 ≡ is_of e a v (fact_of_entity p)
at_triple e a v p = (eq_by_cmp_equiv place_total).symm (e, a, v) p.0 ∙ of_entity (fact_of_entity p) e a v

pub got_triple : (e a : ℕ) (v : Value) (m : BTreeMap (ℕ × ℕ × Value) ℕ)
    → is_some (get place_cmp m (e, a, v)) ≡ list_any (is_of e a v) (map fact_of_entity m.entries)
got_triple e a v m =
    is_some-lookup (is_at (place_cmp (e, a, v))) m.entries
    ∙ any_by_key fact_of_entity (is_of e a v) (is_at (place_cmp (e, a, v))) (at_triple e a v) m.entries
