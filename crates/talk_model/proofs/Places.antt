-- Places and commits: what a talk says of them, whatever its forms are.
use Rattle.std.proofs.Common.{ℕ, ◌≡◌, ◌+◌, ◌<◌, ◌≤◌, ◌⊎◌, Option, Some, None, List, [], ◌∷◌, ◌++◌, length, get_or, zero, suc, add-one, refl}
use Rattle.std.proofs.Common.{ap, sym, ◌∙◌, subst, inl, inr, arith, append_assoc, append-nil}
use Rattle.std.specs.Prelude.{option_to_list}
use Rattle.std.specs.List.{AllByRecursion}
use Rattle.std.proofs.lemmas.List.Elements.{filter_map-append}
use Rattle.std.specs.List.Sorted.{IsNonDecreasing, IsStrictlyIncreasing}
use Rattle.fb_model.specs.History.{basis}
use Rattle.talk_model.specs.Session.{Setting, Standing}
use Rattle.talk_model.specs.Talk.{Exchange, places_of, commits_of, Talk}
use Rattle.talk_model.specs.Prefixes.{SeesAll, Prefixes}
use Rattle.talk_model.proofs.Steps.{Goes, answer_goes}
use Rattle.talk_model.proofs.OneMore.{commits-one, commits-push, Talk-last}

-- one line more in front, with the commit of its form
line_first : (b seen p : ℕ) (ps cs rest : List ℕ) (commit : Option ℕ) → seen ≤ p → p ≤ b
    → (commit ≡ None) ⊎ ((commit ≡ Some p) × (seen < p))
    → cs ≡ option_to_list commit ++ rest → SeesAll b p ps rest → SeesAll b seen (p ∷ ps) cs
line_first b seen p ps cs rest commit from within (inl none) is sees =
    let Sees : List ℕ → Type 0 = SeesAll b p ps in
    (from, within, inl (subst Sees (sym (is ∙ ap (λ (c : Option ℕ). option_to_list c ++ rest) none)) sees))
line_first b seen p ps cs rest commit from within (inr some) is sees =
    (from, within, inr (some.1, rest, is ∙ ap (λ (c : Option ℕ). option_to_list c ++ rest) some.0, sees))

at_place : (s : Setting) (before next : Standing) (commit : Option ℕ) (p : ℕ) → next.place ≡ p → Goes s before next commit
    → (before.place ≤ p) × (p ≤ basis s.history) × ((commit ≡ None) ⊎ ((commit ≡ Some p) × (before.place < p)))
at_place s before next commit p is goes =
    let At : ℕ → Type 0 = λ n. (before.place ≤ n) × (n ≤ basis s.history) × ((commit ≡ None) ⊎ ((commit ≡ Some n) × (before.place < n))) in
    subst At is (goes.from, goes.within, goes.commits)

-- what the first exchange of a talk commits stands before what the others commit
commits_first : (x : Exchange) (talk : List Exchange) → commits_of (x ∷ talk) ≡ option_to_list x.commit ++ commits_of talk
commits_first x talk =
    filter_map-append (λ (y : Exchange). y.commit) (x ∷ []) talk ∙ ap (λ (c : List ℕ). c ++ commits_of talk) (commits-one x)

-- a talk's session sees all that it saw and committed before
pub SeesAll-Talk : (s : Setting) (before after : Standing) (talk : List Exchange)
    → before.place ≤ basis s.history → Talk s before talk after → SeesAll (basis s.history) before.place (places_of talk) (commits_of talk)
SeesAll-Talk s before after [] seen same = inl refl
SeesAll-Talk s before after (x ∷ talk) seen told =
    let goes = answer_goes s before told.0 x.line x.commit seen x.form told.1 in
    let at = at_place s before told.0 x.commit x.place told.2 goes in
    let From : ℕ → Type 0 = λ n. SeesAll (basis s.history) n (places_of talk) (commits_of talk) in
    line_first (basis s.history) before.place x.place (places_of talk) (commits_of (x ∷ talk)) (commits_of talk) x.commit at.0 at.1 at.2
    (commits_first x talk)
    (subst From told.2 (SeesAll-Talk s told.0 after talk goes.within told.3))

-- and so where it goes on to commit, without a line
pub SeesAll-behind : (s : Setting) (before after : Standing) (talk : List Exchange) (t : ℕ)
    → before.place ≤ basis s.history → Talk s before talk after → after.place < t → t ≤ basis s.history
    → SeesAll (basis s.history) before.place (places_of talk) (commits_of talk ++ t ∷ [])
SeesAll-behind s before after [] t seen same above below =
    let at : after.place ≡ before.place = ap (λ (x : Standing). x.place) same in
    inr (t, refl, omega (arith, at, above), below)
SeesAll-behind s before after (x ∷ talk) t seen told above below =
    let goes = answer_goes s before told.0 x.line x.commit seen x.form told.1 in
    let at = at_place s before told.0 x.commit x.place told.2 goes in
    let From : ℕ → Type 0 = λ n. SeesAll (basis s.history) n (places_of talk) (commits_of talk ++ t ∷ []) in
    line_first (basis s.history) before.place x.place (places_of talk) (commits_of (x ∷ talk) ++ t ∷ [])
    (commits_of talk ++ t ∷ []) x.commit at.0 at.1 at.2
    (ap (λ (c : List ℕ). c ++ t ∷ []) (commits_first x talk) ∙ append_assoc (option_to_list x.commit) (commits_of talk) (t ∷ []))
    (subst From told.2 (SeesAll-behind s told.0 after talk t goes.within told.3 above below))

-- the place behind a talk lies in the history
pub Talk-within : (s : Setting) (before after : Standing) (talk : List Exchange) → before.place ≤ basis s.history → Talk s before talk after
    → after.place ≤ basis s.history
Talk-within s before after [] seen same =
    let at : after.place ≡ before.place = ap (λ (x : Standing). x.place) same in omega (arith, at, seen)
Talk-within s before after (x ∷ talk) seen told =
    Talk-within s told.0 after talk (answer_goes s before told.0 x.line x.commit seen x.form told.1).within told.3

-- where the form behind the lines was answered too, and its line did not come out
pub SeesAll-unfinished : (s : Setting) (before after : Standing) (talk : List Exchange) (x : Exchange)
    → before.place ≤ basis s.history → Talk s before (talk ++ x ∷ []) after
    → SeesAll (basis s.history) before.place (places_of talk) (commits_of (talk ++ x ∷ []))
SeesAll-unfinished s before after talk x seen told =
    let last = Talk-last s before after talk x told in
    let within = Talk-within s before last.middle talk seen last.talk_is in
    let goes = answer_goes s last.middle after x.line x.commit within x.form last.answered in
    let Sees : List ℕ → Type 0 = SeesAll (basis s.history) before.place (places_of talk) in
    elim goes.commits [
      | inl none ↦ (
          subst Sees
          (sym (commits-push talk x ∙ ap (λ (c : Option ℕ). commits_of talk ++ option_to_list c) none ∙ append-nil (commits_of talk)))
          (SeesAll-Talk s before last.middle talk seen last.talk_is)
          )
      | inr some ↦ (
          subst Sees (sym (commits-push talk x ∙ ap (λ (c : Option ℕ). commits_of talk ++ option_to_list c) some.0))
          (SeesAll-behind s before last.middle talk after.place seen last.talk_is some.1 goes.within)
          )
    ]

-- ---- in order

AllFrom : ℕ → ℕ → List ℕ → Type 0
AllFrom low high ps = AllByRecursion (λ p. (low ≤ p) × (p ≤ high)) ps

AllFrom-lower : (low more high : ℕ) (ps : List ℕ) → low ≤ more → AllFrom more high ps → AllFrom low high ps
unfolding AllFrom
AllFrom-lower low more high [] below all = tt
AllFrom-lower low more high (p ∷ ps) below all = ((omega (arith, all.0.0), all.0.1), AllFrom-lower low more high ps below all.1)

AllFrom-get : (low high : ℕ) (ps : List ℕ) (k d : ℕ) → AllFrom low high ps → k < length ps → low ≤ get_or ps k d
unfolding AllFrom
AllFrom-get low high [] k d all within = absurd (omega arith)
AllFrom-get low high (p ∷ ps) zero d all within = all.0.0
AllFrom-get low high (p ∷ ps) (suc k) d all within = AllFrom-get low high ps k d all.1 (omega arith)

SeesAll-from : (basis seen : ℕ) (ps cs : List ℕ) → SeesAll basis seen ps cs → AllFrom seen basis ps
unfolding AllFrom
SeesAll-from basis seen [] cs sees = tt
SeesAll-from basis seen (p ∷ ps) cs sees = (
  (sees.0, sees.1),
  AllFrom-lower seen p basis ps sees.0 (elim sees.2 [
    | inl rest ↦ SeesAll-from basis p ps cs rest
    | inr rest ↦ SeesAll-from basis p ps rest.1 rest.3
  ]),
)

SeesAll-rises : (basis seen : ℕ) (ps cs : List ℕ) → SeesAll basis seen ps cs → IsNonDecreasing ps
SeesAll-rises basis seen [] cs sees = λ i j d order within. absurd (omega arith)
SeesAll-rises basis seen (p ∷ ps) cs sees =
    let later : AllFrom p basis ps =
    elim sees.2 [ inl rest ↦ SeesAll-from basis p ps cs rest | inr rest ↦ SeesAll-from basis p ps rest.1 rest.3 ] in
    let rest : IsNonDecreasing ps =
    elim sees.2 [ inl rest ↦ SeesAll-rises basis p ps cs rest | inr rest ↦ SeesAll-rises basis p ps rest.1 rest.3 ] in
    λ i j d order within. pairs p ps basis i j d order within later rest
  where
    pairs : (p : ℕ) (ps : List ℕ) (basis i j d : ℕ) → i ≤ j → j < length (p ∷ ps) → AllFrom p basis ps → IsNonDecreasing ps
        → get_or (p ∷ ps) i d ≤ get_or (p ∷ ps) j d
    pairs p ps basis zero zero d order within later rest = omega arith
    pairs p ps basis zero (suc j) d order within later rest = AllFrom-get p basis ps j d later (omega arith)
    pairs p ps basis (suc i) zero d order within later rest = absurd (omega arith)
    pairs p ps basis (suc i) (suc j) d order within later rest = rest i j d (omega arith) (omega arith)

pub Prefixes-SeesAll : (opening basis : ℕ) (ps cs : List ℕ) → SeesAll basis opening ps cs → Prefixes opening basis ps cs
unfolding AllFrom
Prefixes-SeesAll opening basis ps cs sees =
    record { never_fall = SeesAll-rises basis opening ps cs sees; within = SeesAll-from basis opening ps cs sees; committed_before = sees }

-- ---- commits

AllAbove : ℕ → List ℕ → Type 0
AllAbove low cs = AllByRecursion (λ c. low < c) cs

AllAbove-lower : (low more : ℕ) (cs : List ℕ) → low ≤ more → AllAbove more cs → AllAbove low cs
unfolding AllAbove
AllAbove-lower low more [] below all = tt
AllAbove-lower low more (c ∷ cs) below all = (omega (arith, all.0), AllAbove-lower low more cs below all.1)

AllAbove-get : (low : ℕ) (cs : List ℕ) (k : ℕ) → AllAbove low cs → k < length cs → low < get_or cs k 0
unfolding AllAbove
AllAbove-get low [] k all within = absurd (omega arith)
AllAbove-get low (c ∷ cs) zero all within = all.0
AllAbove-get low (c ∷ cs) (suc k) all within = AllAbove-get low cs k all.1 (omega arith)

commits_above : (basis seen : ℕ) (ps cs : List ℕ) → SeesAll basis seen ps cs → AllAbove seen cs
unfolding AllAbove
commits_above basis seen [] cs sees =
    elim sees [
      | inl none ↦ (let P : List ℕ → Type 0 = AllAbove seen in subst P (sym none) tt)
      | inr one ↦ (let P : List ℕ → Type 0 = AllAbove seen in subst P (sym one.1) (one.2, tt))
    ]
commits_above basis seen (p ∷ ps) cs sees =
    elim sees.2 [
      | inl rest ↦ AllAbove-lower seen p cs sees.0 (commits_above basis p ps cs rest)
      | inr rest ↦ (let P : List ℕ → Type 0 = AllAbove seen in
          subst P (sym rest.2) (rest.0, AllAbove-lower seen p rest.1 sees.0 (commits_above basis p ps rest.1 rest.3)))
    ]

pushed_in_front : (p : ℕ) (cs : List ℕ) → AllAbove p cs → IsStrictlyIncreasing cs → IsStrictlyIncreasing (p ∷ cs)
pushed_in_front p cs above rises = λ k within. at k within
  where
    at : (k : ℕ) → k + 1 < length (p ∷ cs) → get_or (p ∷ cs) k 0 < get_or (p ∷ cs) (k + 1) 0
    at zero within = AllAbove-get p cs 0 above (omega arith)
    at (suc k) within =
        rw (add-one (suc k)) (let step : get_or cs k 0 < get_or cs (k + 1) 0 = rises k (omega arith) in rw (add-one k) at step)

pub commits_rise : (basis seen : ℕ) (ps cs : List ℕ) → SeesAll basis seen ps cs → IsStrictlyIncreasing cs
commits_rise basis seen [] cs sees =
    elim sees [
      | inl none ↦ (λ k within. absurd (omega (arith, ap length none)))
      | inr one ↦ (λ k within. absurd (omega (arith, ap length one.1)))
    ]
commits_rise basis seen (p ∷ ps) cs sees =
    elim sees.2 [
      | inl rest ↦ commits_rise basis p ps cs rest
      | inr rest ↦ (let P : List ℕ → Type 0 = IsStrictlyIncreasing in
          subst P (sym rest.2) (pushed_in_front p rest.1 (commits_above basis p ps rest.1 rest.3) (commits_rise basis p ps rest.1 rest.3)))
    ]
