-- The least number above all ids, of which their order and how often they stand there are no part.
use Rattle.std.proofs.Common.{◌≡◌, ◌≤◌, ◌<◌, ℕ, true, List, [], ◌∷◌, inl, inr, refl, sym, ◌∙◌, arith}
use Rattle.std.specs.Prelude.{nat_eq}
use Rattle.std.proofs.lemmas.Bool.{true≢false, or_left, or_right, or_cases, eqb-true, eq-eqb}
use Rattle.log_model.specs.Nodes.{is_among}
use Rattle.seg_tree.specs.Ids.{next_above}

pub among_below : (ids : List ℕ) (id : ℕ) → is_among ids id ≡ true → id < next_above ids
among_below [] id is = absurd (true≢false (sym is))
among_below (x ∷ ids) id is = elim (or_cases (nat_eq id x) (is_among ids id) is) [
  | inl same ↦ omega (arith, eqb-true id x same)
  | inr later ↦ omega (arith, among_below ids id later)
]

pub some : (ids : List ℕ) → 1 ≤ next_above ids
some [] = omega arith
some (x ∷ ids) = omega (arith, some ids)

pub least : (ids : List ℕ) (n : ℕ) → 1 ≤ n → ((id : ℕ) → is_among ids id ≡ true → id < n) → next_above ids ≤ n
least [] n above each = omega (arith, above)
least (x ∷ ids) n above each =
    omega (
      arith,
      each x (or_left _ _ (eq-eqb x x refl)),
      least ids n above (λ id is. each id (or_right _ _ is)),
    )

pub same_next : (ids others : List ℕ) → ((id : ℕ) → is_among ids id ≡ is_among others id) → next_above ids ≡ next_above others
same_next ids others same =
    omega (
      arith,
      least ids (next_above others) (some others) (λ id is. among_below others id (sym (same id) ∙ is)),
      least others (next_above ids) (some ids) (λ id is. among_below ids id (same id ∙ is)),
    )
