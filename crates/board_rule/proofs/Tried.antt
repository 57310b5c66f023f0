-- Each session is tried once, from the last down to the first.
use Rattle.std.proofs.Common.{◌≡◌, ℕ, zero, suc, ◌+◌, ◌<◌, ◌≤◌, List, [], ◌∷◌, ◌++◌, length, refl, sym, ap, ◌∙◌, arith, Option, Some, None}
use mathlib.Core.Logic.{dite}
use mathlib.Core.Option.{some}
use native.Mathlib.Decide.{ℕ_discrete}
use lib.ListN.{get_elem?}
use Rattle.atomic_table.proofs.Lists.{at_longer, at_last}
use Rattle.board_rule.specs.Views.{tried_too, tried_down, IsTried}
use Rattle.board_rule.proofs.Sums.{none_not, same_some}

-- the sessions from m on, below n, are in the list
abbrev Has : ℕ → ℕ → List ℕ → Type 0
Has m n ts = (s : ℕ) → m ≤ s → s < n → (k : ℕ) × (get_elem? ts k ≡ some s)

tried_from : (m n : ℕ) (ts : List ℕ) → m ≤ n → Has m n ts → IsTried n (tried_down m (Some ts))
tried_from zero n ts le has =
    λ us e s lt. let t = has s (omega arith) lt in (t.0, ap (λ (l : List ℕ). get_elem? l t.0) (sym (same_some ts us e)) ∙ t.1)
tried_from (suc m) n ts le has = tried_from m n (ts ++ m ∷ []) (omega arith) (λ s lo lt. dite (ℕ_discrete m s)
    (λ same. (length ts, at_last ts m (length ts) refl ∙ ap some same))
    (λ ne. let t = has s (omega arith) lt in (t.0, at_longer ts (m ∷ []) t.0 s t.1)))

-- a commit asks for a try of each session: then they were all tried
pub tried_all : (n : ℕ) (tried : Option (List ℕ)) → IsTried n (tried_down n tried)
tried_all n (Some ts) = tried_from n n ts (omega arith) (λ s lo lt. absurd (omega arith))
tried_all n None = λ ts e. absurd (none_not ts (sym (stays n) ∙ e))
  where
    stays : (n : ℕ) → tried_down n None ≡ None
    stays zero = refl
    stays (suc n) = stays n

-- one try more
pub tried_next : (n : ℕ) (tried : Option (List ℕ)) → tried_down (n + 1) tried ≡ tried_down n (tried_too n tried)
tried_next n tried = let e : n + 1 ≡ suc n = omega arith in ap (λ (k : ℕ). tried_down k tried) e
