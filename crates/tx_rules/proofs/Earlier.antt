-- The lesser of two places, and the least of many.
use Rattle.std.proofs.Common.{◌≡◌, ℕ, ◌+◌, ◌<◌, min, Bool, true, false, cond, List, [], ◌∷◌, length, get_or, drop, refl, ap, sym, ◌∙◌}
use Rattle.std.proofs.Common.{arith, add-one, drop-cons, Option, Some, None}
use Rattle.std.specs.Prelude.{filter}
use Rattle.std.specs.List.{list_any}
use Rattle.std.proofs.lemmas.Bool.{or_parts}
use Rattle.tx_asks.specs.declared.triples.Triple.{Triple}
use Rattle.tx_rules.specs.Places.{earlier, first_where}

min_assoc : (l m n : ℕ) → min l (min m n) ≡ min (min l m) n
min_assoc l m n = omega arith

pub earlier-assoc : (x y z : Option ℕ) → earlier x (earlier y z) ≡ earlier (earlier x y) z
earlier-assoc None y z = refl
earlier-assoc (Some l) None z = refl
earlier-assoc (Some l) (Some m) None = refl
earlier-assoc (Some l) (Some m) (Some n) = ap Some (min_assoc l m n)

pub earlier-none : (x : Option ℕ) → earlier x None ≡ x
earlier-none None = refl
earlier-none (Some m) = refl

-- ---- the first place of the triples that pass

-- a loop's step
pub first_where-step : (p : Triple → Bool) (place : Triple → Option ℕ) (ts : List Triple) (i : ℕ) (d : Triple) (first : Option ℕ)
    → i < length ts
    → earlier first (first_where p place (drop i ts))
    ≡ earlier (earlier first (cond (p (get_or ts i d)) (place (get_or ts i d)) None)) (first_where p place (drop (i + 1) ts))
first_where-step p place ts i d first within =
    ap (λ l. earlier first (first_where p place l)) (first_of_rest ts i within)
    ∙ earlier-assoc first (cond (p (get_or ts i d)) (place (get_or ts i d)) None) (first_where p place (drop (i + 1) ts))
  where
    first_of_rest : (ts : List Triple) (i : ℕ) → i < length ts → drop i ts ≡ get_or ts i d ∷ drop (i + 1) ts
    first_of_rest ts i within = rw (add-one, drop-cons ts i d) refl

-- there is none where none passes
pub nowhere_first : (p : Triple → Bool) (place : Triple → Option ℕ) (ts : List Triple) → list_any p ts ≡ false
    → first_where p place ts ≡ None
nowhere_first p place [] none = refl
nowhere_first p place (t ∷ ts) none =
    let parts = or_parts (p t) (list_any p ts) none in
    rw (parts.0, nowhere_first p place ts parts.1) refl

pub first_where-same : (p q : Triple → Bool) (place : Triple → Option ℕ)
    → ((t : Triple) → p t ≡ q t) → (ts : List Triple) → first_where p place ts ≡ first_where q place ts
first_where-same p q place same [] = refl
first_where-same p q place same (t ∷ ts) = rw (same t, first_where-same p q place same ts) refl

-- those that no one of the others passes
pub first_where-filter : (p q : Triple → Bool) (place : Triple → Option ℕ)
    → ((t : Triple) → q t ≡ false → p t ≡ false) → (ts : List Triple) → first_where p place (filter q ts) ≡ first_where p place ts
first_where-filter p q place fails [] = refl
first_where-filter p q place fails (t ∷ ts) = go (q t) refl (first_where-filter p q place fails ts)
  where
    go : (b : Bool) → q t ≡ b → first_where p place (filter q ts) ≡ first_where p place ts
        → first_where p place (cond b (t ∷ filter q ts) (filter q ts)) ≡ earlier (cond (p t) (place t) None) (first_where p place ts)
    go true is rest = ap (earlier (cond (p t) (place t) None)) rest
    go false is rest = rest ∙ ap (λ b. earlier (cond b (place t) None) (first_where p place ts)) (sym (fails t is))

-- a loop's step over members, where one passes and where it fails
module _ (p : Triple → Bool) (place : Triple → Option ℕ) (ts : List Triple) (i : ℕ) (t : Triple) (first : Option ℕ) (within : i < length ts)
    (is : t ≡ get_or ts i t) where
  step_if : (b : Bool) → p t ≡ b
      → earlier first (first_where p place (drop i ts))
      ≡ earlier (earlier first (cond b (place t) None)) (first_where p place (drop (i + 1) ts))
  step_if b passes =
      first_where-step p place ts i t first within
      ∙ ap (λ x. earlier (earlier first (cond (p x) (place x) None)) (first_where p place (drop (i + 1) ts))) (sym is)
      ∙ ap (λ c. earlier (earlier first (cond c (place t) None)) (first_where p place (drop (i + 1) ts))) passes

  pub first_where-pass : p t ≡ true
      → earlier (earlier first (place t)) (first_where p place (drop (i + 1) ts)) ≡ earlier first (first_where p place (drop i ts))
  first_where-pass passes = sym (step_if true passes)

  pub first_where-fail : p t ≡ false
      → earlier first (first_where p place (drop (i + 1) ts)) ≡ earlier first (first_where p place (drop i ts))
  first_where-fail fails =
      ap (λ x. earlier x (first_where p place (drop (i + 1) ts))) (sym (earlier-none first)) ∙ sym (step_if false fails)
