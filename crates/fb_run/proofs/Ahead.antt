-- What becomes of sessions of which the last runs ahead.
use Rattle.std.proofs.Common.{◌≡◌, ℕ, zero, suc, ◌+◌, ◌-◌, ◌<◌, ◌≤◌, ◌⊎◌, List, [], ◌∷◌, ◌++◌, length, get_or, take, drop, set, refl, sym}
use Rattle.std.proofs.Common.{ap, ◌∙◌, subst, arith, inl, inr}
use Rattle.std.proofs.lemmas.Bool.{cases_lt}
use Rattle.std.proofs.lemmas.List.{get_or-take, get_or-drop, get_or-set_same, get_or-set_other, get_or_append_left, get_or-append_right}

-- within a list the default is not read
read_within : {A : Type 0} (xs : List A) (n : ℕ) (d e : A) → n < length xs → get_or xs n d ≡ get_or xs n e
read_within [] n d e within = absurd (omega (arith, within))
read_within (x ∷ xs) zero d e within = refl
read_within (x ∷ xs) (suc n) d e within = read_within xs n d e (omega (arith, within))

-- the last became `now`, and then those before it, each by a step of its own
module _ {A : Type 0} (P : A → A → Type 0) (jobs : List A) (n : ℕ) (was now : A) (others : List A)
    (count : n + 1 ≡ length jobs) (is : was ≡ get_or jobs n was) (same : length others ≡ n) (last : P was now)
    (step : (k : ℕ) (d : A) → k < n → P (get_or (take n (set jobs n now)) k d) (get_or others k d)) where
  abbrev served : List A
  served = others ++ drop n (set jobs n now)

  before : (k : ℕ) (d : A) → k < n → P (get_or jobs k d) (get_or served k d)
  before k d within =
      let old : get_or (take n (set jobs n now)) k d ≡ get_or jobs k d =
      get_or-take n (set jobs n now) k d within ∙ get_or-set_other jobs n k now d (λ e. omega (arith, within, e)) in
      let new : get_or served k d ≡ get_or others k d =
      get_or_append_left others (drop n (set jobs n now)) d k (omega (arith, within, same)) in
      subst (λ x. P x (get_or served k d)) old (subst (λ y. P (get_or (take n (set jobs n now)) k d) y) (sym new) (step k d within))

  at_last : (d : A) → P (get_or jobs n d) (get_or served n d)
  at_last d =
      let old : was ≡ get_or jobs n d = is ∙ read_within jobs n was d (omega (arith, count)) in
      let front : get_or served n d ≡ get_or (drop n (set jobs n now)) (n - n) d =
      get_or-append_right others (drop n (set jobs n now)) n n d same (omega arith) in
      let behind : get_or (drop n (set jobs n now)) (n - n) d ≡ get_or (set jobs n now) (n + (n - n)) d =
      get_or-drop n (set jobs n now) (n - n) d in
      let place : n + (n - n) ≡ n = omega arith in
      let new : get_or served n d ≡ now =
      front ∙ behind ∙ ap (λ (m : ℕ). get_or (set jobs n now) m d) place ∙ get_or-set_same jobs n now d (omega (arith, count)) in
      subst (λ x. P x (get_or served n d)) old (subst (P was) (sym new) last)

  pub each_served : (k : ℕ) (d : A) → k < length jobs → P (get_or jobs k d) (get_or served k d)
  each_served k d within = go (cases_lt k n)
    where
      go : (k < n) ⊎ (n ≤ k) → P (get_or jobs k d) (get_or served k d)
      go (inl less) = before k d less
      go (inr past) =
          let here : n ≡ k = omega (arith, past, within, count) in
          subst (λ (m : ℕ). P (get_or jobs m d) (get_or served m d)) here (at_last d)
