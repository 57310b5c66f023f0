-- Small facts about numbers, lists and paths.
use Rattle.std.proofs.Common.{◌≡◌, ℕ, zero, suc, ◌<◌, ◌≤◌, Bool, true, false, List, [], ◌∷◌, ◌++◌, take, nat_eq, leb, refl, sym, inl, inr}
use Rattle.std.proofs.Common.{◌⊎◌}
use Rattle.std.specs.List.{AllByRecursion}
use Rattle.std.proofs.Math.Seq.{take-nil}
use Rattle.std.proofs.lemmas.Bool.{true≢false, leb-true, leb-false, or_cases, or_left, or_right, eq-eqb}
use Rattle.pull_model.specs.Made.{limited}
use Rattle.pull_model.specs.Patterns.{Limit, first, all}
use Rattle.pull_model.specs.Tree.{is_on}

pub le_or_lt : (m n : ℕ) → (m ≤ n) ⊎ (n < m)
le_or_lt m n = go (leb m n) refl
  where
    go : (b : Bool) → leb m n ≡ b → (m ≤ n) ⊎ (n < m)
    go true e = inl (leb-true m n e)
    go false e = inr (leb-false m n e)

-- each of the entities is among those of the list
abbrev pub AreOn : List ℕ → List ℕ → Type 0
AreOn every ns = AllByRecursion (λ n. is_on every n ≡ true) ns

pub on-here : (n : ℕ) (ns : List ℕ) → is_on (n ∷ ns) n ≡ true
on-here n ns = or_left _ _ (eq-eqb n n refl)

pub on-there : (m n : ℕ) (ns : List ℕ) → is_on ns n ≡ true → is_on (m ∷ ns) n ≡ true
on-there m n ns on = or_right _ _ on

pub on-left : (xs ys : List ℕ) (n : ℕ) → is_on xs n ≡ true → is_on (xs ++ ys) n ≡ true
on-left [] ys n on = absurd (true≢false (sym on))
on-left (x ∷ xs) ys n on =
    elim (or_cases (nat_eq n x) (is_on xs n) on) [ inl now ↦ or_left _ _ now | inr later ↦ or_right _ _ (on-left xs ys n later) ]

pub on-right : (xs ys : List ℕ) (n : ℕ) → is_on ys n ≡ true → is_on (xs ++ ys) n ≡ true
on-right [] ys n on = on
on-right (x ∷ xs) ys n on = or_right _ _ (on-right xs ys n on)

pub on-more : (xs ys ns : List ℕ) → ((n : ℕ) → is_on xs n ≡ true → is_on ys n ≡ true) → AreOn xs ns → AreOn ys ns
on-more xs ys [] more on = tt
on-more xs ys (n ∷ ns) more on = (more n on.0, on-more xs ys ns more on.1)

pub on-take : (every ns : List ℕ) (k : ℕ) → AreOn every ns → AreOn every (take k ns)
on-take every ns zero on = tt
on-take every [] (suc k) on = tt
on-take every (n ∷ ns) (suc k) on = (on.0, on-take every ns k on.1)

pub on-limited : (every ns : List ℕ) (limit : Limit) → AreOn every ns → AreOn every (limited limit ns)
on-limited every ns (first k) on = on-take every ns k on
on-limited every ns all on = on

module _ {T : Type 0} where
  pub limited-nil : (limit : Limit) → ◌≡◌ {A = List T} (limited limit []) []
  limited-nil (first k) = take-nil k
  limited-nil all = refl
