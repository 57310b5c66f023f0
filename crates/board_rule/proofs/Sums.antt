-- Sums over the seats, of which a step changes one.
use Rattle.std.proofs.Common.{◌≡◌, ◌≢◌, ℕ, zero, suc, ◌+◌, ◌-◌, ◌<◌, ◌≤◌, List, [], ◌∷◌, ◌++◌, set, cond, eqb, sym, refl, ap, arith, eq-eqb}
use Rattle.std.proofs.Common.{ne_eqb, Some, None}
use mathlib.Core.Option.{some, some-injective, some-ne-none}
use lib.ListN.{get_elem?}
use Rattle.board_rule.specs.declared.view.View.{View}
use Rattle.board_rule.specs.declared.view.Joined.{Joined}
use Rattle.board_rule.specs.Board.{total, one_if, has_number, draws_left, numbered}

module _ {A : Type 0} (g : A → ℕ) where
  pub total-append : (l m : List A) → total g (l ++ m) ≡ total g l + total g m
  total-append [] m = omega arith
  total-append (x ∷ xs) m = omega (arith, total-append xs m)

  pub total-set : (l : List A) (j : ℕ) (v w : A) → get_elem? l j ≡ some v → total g (set l j w) + g v ≡ total g l + g w
  total-set [] j v w e = absurd (some-ne-none v (sym e))
  total-set (x ∷ xs) zero v w e = omega (arith, ap g (some-injective x v e))
  total-set (x ∷ xs) (suc j) v w e = omega (arith, total-set xs j v w e)

  pub term_le : (l : List A) (j : ℕ) (v : A) → get_elem? l j ≡ some v → g v ≤ total g l
  term_le [] j v e = absurd (some-ne-none v (sym e))
  term_le (x ∷ xs) zero v e = omega (arith, ap g (some-injective x v e))
  term_le (x ∷ xs) (suc j) v e = omega (arith, term_le xs j v e)

  pub terms_le : (l : List A) (j k : ℕ) (v u : A) → k ≢ j → get_elem? l j ≡ some v → get_elem? l k ≡ some u → g v + g u ≤ total g l
  terms_le [] j k v u n e d = absurd (some-ne-none v (sym e))
  terms_le (x ∷ xs) zero zero v u n e d = absurd (n refl)
  terms_le (x ∷ xs) zero (suc k) v u n e d = omega (arith, ap g (some-injective x v e), term_le xs k u d)
  terms_le (x ∷ xs) (suc j) zero v u n e d = omega (arith, ap g (some-injective x u d), term_le xs j v e)
  terms_le (x ∷ xs) (suc j) (suc k) v u n e d = omega (arith, terms_le xs j k v u (λ h. n (ap suc h)) e d)

pub none_not : {A : Type 0} (a : A) → None ≡ Some a → ⊥
none_not a e = cc

pub same_some : {A : Type 0} (a b : A) → Some a ≡ Some b → a ≡ b
same_some a b e = cc

pub one_same : (a b : ℕ) → a ≡ b → one_if (eqb a b) ≡ 1
one_same a b e = ap one_if (eq-eqb a b e)

pub one_other : (a b : ℕ) → a ≢ b → one_if (eqb a b) ≡ 0
one_other a b e = ap one_if (ne_eqb a b e)

module _ {E : Type 0} where
  pub left_live : (v : View E) → 0 < v.seats → draws_left v ≡ 4294967296 - v.draws
  left_live v live = ap (λ b. cond b 0 (4294967296 - v.draws)) (ne_eqb v.seats 0 (λ e. omega arith))

  pub left_spent : (v : View E) → v.seats ≡ 0 → draws_left v ≡ 0
  left_spent v e = ap (λ b. cond b 0 (4294967296 - v.draws)) (eq-eqb v.seats 0 e)

  pub numbered_live : (z : ℕ) (v : View E) → 0 < v.seats → numbered z v ≡ one_if (eqb v.number z) + total (has_number z) v.joined
  numbered_live z v live =
      ap (λ b. cond b 0 (one_if (eqb v.number z)) + total (has_number z) v.joined) (ne_eqb v.seats 0 (λ e. omega arith))

  pub numbered_own : (v : View E) → 0 < v.seats → numbered v.number v ≡ 1 + total (has_number v.number) v.joined
  numbered_own v live = omega (arith, numbered_live v.number v live, one_same v.number v.number refl)

  -- a note of a number is counted
  pub note_counts : (v : View E) (k : ℕ) (p : Joined E) → get_elem? v.joined k ≡ some p → 1 ≤ total (has_number p.number) v.joined
  note_counts v k p at = omega (arith, term_le (has_number p.number) v.joined k p at, one_same p.number p.number refl)

  pub note_numbered : (v : View E) (k : ℕ) (p : Joined E) → get_elem? v.joined k ≡ some p → 1 ≤ numbered p.number v
  note_numbered v k p at = let c : ℕ = cond (eqb v.seats 0) 0 (one_if (eqb v.number p.number)) in omega (arith, note_counts v k p at)

  -- where one seat weighs as much as all, the others weigh nothing
  pub others_zero : (g : View E → ℕ) (l : List (View E)) (j k : ℕ) (v u : View E) → k ≢ j → get_elem? l j ≡ some v → get_elem? l k ≡ some u
      → total g l ≤ g v → g u ≡ 0
  others_zero g l j k v u ne e d h = omega (arith, terms_le g l j k v u ne e d)
