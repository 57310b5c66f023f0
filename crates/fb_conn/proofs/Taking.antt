-- What the closed board says of each seat, in the words of histories and cores.
use Rattle.std.proofs.Common.{◌≡◌, ◌≢◌, ◌⊎◌, inl, inr, ◌∙◌, ℕ, ◌+◌, ◌<◌, ◌≤◌, ◌==◌, Bool, true, false, if◌then◌else◌, List, [], ◌∷◌, Option}
use Rattle.std.proofs.Common.{Some, None, refl, sym, ap, nat_lt, eq-eqb, ne_eqb}
use Rattle.std.specs.Prelude.{option_map}
use Rattle.std.specs.List.{AllByRecursion}
use Rattle.std.proofs.lemmas.Bool.{ltb-true, ltb-false}
use mathlib.Core.Logic.{dite}
use native.Mathlib.Decide.{ℕ_discrete}
use Rattle.board_rule.specs.declared.view.Stop.{Stop as NamedStop}
use Rattle.board_rule.specs.Views.{worker, commits_of}
use Rattle.fb_core.specs.Worlds.{commits_behind}
use Rattle.fb_conn.specs.declared.home.Stop.{Stop}
use Rattle.fb_conn.specs.Homes.{named_stop}
use Rattle.fb_conn.specs.Seats.{at_of as named_at, is_own}
use Rattle.fb_conn.specs.Closing.{at_of, is_author}

-- two tests whether two numbers are equal
same_test : (a b : ℕ) → (a == b) ≡ (b == a)
same_test a b =
    dite (ℕ_discrete a b) (λ e. eq-eqb a b e ∙ sym (eq-eqb b a (sym e))) (λ ne. ne_eqb a b ne ∙ sym (ne_eqb b a (λ e. ne (sym e))))

-- the entries behind t are those from t + 1 on
pub behind_is_from : (n t : ℕ) (who : List ℕ) → commits_of n (t + 1) who ≡ commits_behind t n who
behind_is_from n t [] = refl
behind_is_from n t (a ∷ who) =
    let rest = behind_is_from n (t + 1) who in let test = same_test a n in λ i. if test i then (t + 1) ∷ rest i else rest i

none_later : (b : Bool) (t : ℕ) (ts : List ℕ) → (if b then t ∷ ts else ts) ≡ [] → ts ≡ []
none_later true t ts none = absurd (cc)
none_later false t ts none = none

never_none : (b : Bool) (t : ℕ) (ts : List ℕ) → b ≡ true → (if b then t ∷ ts else ts) ≡ [] → ⊥
never_none true t ts test none = absurd (cc)
never_none false t ts test none = absurd (cc)

-- where no number from n on has a commit, all authors are below n
module _ (n : ℕ) where
  is_below : (a t : ℕ) (who : List ℕ) → (n ≤ a → commits_of a t (a ∷ who) ≡ []) → (b : Bool) → nat_lt a n ≡ b → a < n
  is_below a t who none true test = ltb-true a n test
  is_below a t who none false test = absurd (never_none (a == a) t (commits_of a (t + 1) who) (eq-eqb a a refl) (none (ltb-false a n test)))

  pub all_below : (t : ℕ) (who : List ℕ) → ((z : ℕ) → n ≤ z → commits_of z t who ≡ []) → AllByRecursion (λ a. a < n) who
  all_below t [] none = tt
  all_below t (a ∷ who) none = (
    is_below a t who (none a) (nat_lt a n) refl,
    all_below (t + 1) who (λ z past. none_later (a == z) t (commits_of z (t + 1) who) (none z past)),
  )

pub no_other_commits : (n t : ℕ) (who : List ℕ) → ((z : ℕ) → n ≤ z → z ≢ worker → commits_of z t who ≡ []) → commits_of worker t who ≡ []
    → (z : ℕ) → n ≤ z → commits_of z t who ≡ []
no_other_commits n t who others own z past =
    dite (ℕ_discrete z worker) (λ same. ap (λ (m : ℕ). commits_of m t who) same ∙ own) (λ ne. others z past ne)

-- a stop that was told is the one that the database has
told_of : (q : NamedStop) (n k : ℕ) (stopped : Option Stop) → n ≡ k → option_map named_stop stopped ≡ Some q
    → (option_map named_at (Some q) ≡ option_map at_of stopped) × (is_own n (Some q) ≡ is_author k stopped)
told_of q n k None number is = absurd (cc)
told_of q n k (Some stop) number is =
    let same : named_stop stop ≡ q = cc is in (ap (λ (z : NamedStop). Some z.at) (sym same), (λ i. (sym same i).author == number i))

pub stop_taken : (told : Option NamedStop) (n k : ℕ) (stopped : Option Stop) → n ≡ k
    → ((q : NamedStop) → told ≡ Some q → option_map named_stop stopped ≡ Some q)
    → (option_map named_at told ≡ None) ⊎ ((option_map named_at told ≡ option_map at_of stopped) × (is_own n told ≡ is_author k stopped))
stop_taken None n k stopped number is = inl refl
stop_taken (Some q) n k stopped number is = inr (told_of q n k stopped number (is q refl))
