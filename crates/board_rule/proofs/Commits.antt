-- A seat's commits are the entries whose author it is, and they rise.
use Rattle.std.proofs.Common.{◌≡◌, ◌≢◌, ℕ, zero, suc, ◌+◌, ◌<◌, List, [], ◌∷◌, cond, sym, ap, ◌∙◌, arith, eq-eqb, ne_eqb}
use mathlib.Core.Logic.{dite}
use mathlib.Core.Option.{some, some-injective, some-ne-none}
use native.Mathlib.Decide.{ℕ_discrete}
use lib.ListN.{get_elem?}
use Rattle.board_rule.specs.Views.{commits_of}

-- the next entry is this author's, or another's
module _ (n t a : ℕ) (who : List ℕ) where
  own : a ≡ n → commits_of n t (a ∷ who) ≡ t ∷ commits_of n (t + 1) who
  own e = ap (λ b. cond b (t ∷ commits_of n (t + 1) who) (commits_of n (t + 1) who)) (eq-eqb a n e)

  other : a ≢ n → commits_of n t (a ∷ who) ≡ commits_of n (t + 1) who
  other ne = ap (λ b. cond b (t ∷ commits_of n (t + 1) who) (commits_of n (t + 1) who)) (ne_eqb a n ne)

pub entry_commits : (n t i : ℕ) (who : List ℕ) → get_elem? who i ≡ some n → (k : ℕ) × (get_elem? (commits_of n t who) k ≡ some (t + i))
entry_commits n t i [] e = absurd (some-ne-none n (sym e))
entry_commits n t zero (a ∷ who) e =
    let z : t ≡ t + 0 = omega arith in (0, ap (λ l. get_elem? l 0) (own n t a who (some-injective a n e)) ∙ ap some z)
entry_commits n t (suc i) (a ∷ who) e = let h = entry_commits n (t + 1) i who e in let z : t + 1 + i ≡ t + suc i = omega arith in
    dite (ℕ_discrete a n) (λ same. (suc h.0, ap (λ l. get_elem? l (suc h.0)) (own n t a who same) ∙ (h.1 ∙ ap some z)))
    (λ ne. (h.0, ap (λ l. get_elem? l h.0) (other n t a who ne) ∙ (h.1 ∙ ap some z)))

pub commit_entries : (n t k u : ℕ) (who : List ℕ) → get_elem? (commits_of n t who) k ≡ some u
    → (i : ℕ) × (u ≡ t + i) × (get_elem? who i ≡ some n)
commit_entries n t k u [] e = absurd (some-ne-none u (sym e))
commit_entries n t zero u (a ∷ who) e = dite (ℕ_discrete a n)
    (λ same. let is : t ≡ u = some-injective t u (ap (λ l. get_elem? l 0) (sym (own n t a who same)) ∙ e) in (0, omega arith, ap some same))
    (λ ne. let h = commit_entries n (t + 1) 0 u who (ap (λ l. get_elem? l 0) (sym (other n t a who ne)) ∙ e) in let i : ℕ = h.0 in
    let is : u ≡ t + 1 + i = h.1 in (suc i, omega arith, h.2))
commit_entries n t (suc k) u (a ∷ who) e = dite (ℕ_discrete a n)
    (λ same. let h = commit_entries n (t + 1) k u who (ap (λ l. get_elem? l (suc k)) (sym (own n t a who same)) ∙ e) in let i : ℕ = h.0 in
    let is : u ≡ t + 1 + i = h.1 in (suc i, omega arith, h.2))
    (λ ne. let h = commit_entries n (t + 1) (suc k) u who (ap (λ l. get_elem? l (suc k)) (sym (other n t a who ne)) ∙ e) in
    let i : ℕ = h.0 in let is : u ≡ t + 1 + i = h.1 in (suc i, omega arith, h.2))

-- by cases on the first author
rise : (n t k u w : ℕ) (who : List ℕ) → get_elem? (commits_of n t who) k ≡ some u → get_elem? (commits_of n t who) (suc k) ≡ some w → u < w
rise n t k u w [] e f = absurd (some-ne-none u (sym e))
rise n t zero u w (a ∷ who) e f = dite (ℕ_discrete a n)
    (λ same. let is : t ≡ u = some-injective t u (ap (λ l. get_elem? l 0) (sym (own n t a who same)) ∙ e) in
    let h = commit_entries n (t + 1) 0 w who (ap (λ l. get_elem? l 1) (sym (own n t a who same)) ∙ f) in
    let i : ℕ = h.0 in
    let at : w ≡ t + 1 + i = h.1 in
    omega arith)
    (λ ne. rise n (t + 1) 0 u w who (ap (λ l. get_elem? l 0) (sym (other n t a who ne)) ∙ e)
    (ap (λ l. get_elem? l 1) (sym (other n t a who ne)) ∙ f))
rise n t (suc k) u w (a ∷ who) e f = dite (ℕ_discrete a n)
    (λ same. rise n (t + 1) k u w who (ap (λ l. get_elem? l (suc k)) (sym (own n t a who same)) ∙ e)
    (ap (λ l. get_elem? l (suc (suc k))) (sym (own n t a who same)) ∙ f))
    (λ ne. rise n (t + 1) (suc k) u w who (ap (λ l. get_elem? l (suc k)) (sym (other n t a who ne)) ∙ e)
    (ap (λ l. get_elem? l (suc (suc k))) (sym (other n t a who ne)) ∙ f))

pub commits_rise : (n t k u w : ℕ) (who : List ℕ) → get_elem? (commits_of n t who) k ≡ some u
    → get_elem? (commits_of n t who) (k + 1) ≡ some w → u < w
commits_rise n t k u w who e f =
    let z : k + 1 ≡ suc k = omega arith in rise n t k u w who e (ap (get_elem? (commits_of n t who)) (sym z) ∙ f)
