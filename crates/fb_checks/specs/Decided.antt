-- What a closure answers, as a function of the datom: a guard's meaning is a function of the
-- changes, while a closure says by a relation what it may answer.
-- This project's own choice.
use Rattle.std.specs.Prelude.{◌≡◌, ◌↔◌, Bool, true, false, IsTrue}
use Rattle.std.proofs.Common.{refl, sym, ◌∙◌}
use Rattle.std.proofs.Props.{props}
use Rattle.std.proofs.lemmas.Bool.{true≢false, false≢true}
use Rattle.std.proofs.Math.Logic.{∥∥₁_elim}
use mathlib.Core.HLevel.{is_prop→PathP}
use Rattle.fb_values.specs.declared.facts.Datom.{Datom}
use Rattle.fb_preds.specs.Datoms.{IsDatom}
use Rattle.fb_checks.specs.Held.{is_datom, datom_tested, tested_datom}

-- the answer at a datom, where it is given which are selected: of one that a program can hold
-- whether it is, and of every other one yes
pub record IsAnswer (Selects : Datom → Type 0) (d : Datom) (passes : Bool) : Type 0 where
  pub held : IsDatom d → ∥ IsTrue passes ↔ Selects d ∥₁
  pub other : (IsDatom d → ⊥) → passes ≡ true

-- all answers: there is one such function at most
pub record Decided (Selects : Datom → Type 0) : Type 0 where
  pub passes : Datom → Bool
  pub answers : (d : Datom) → IsAnswer Selects d (passes d)

-- ---- there is one at most

IsAnswer-prop : (Selects : Datom → Type 0) (d : Datom) (passes : Bool) → IsProp (IsAnswer Selects d passes)
IsAnswer-prop Selects d passes = hlevel props

-- truths of one thing are one
pub one_truth : (b c : Bool) (S : Type 0) → IsTrue b ↔ S → IsTrue c ↔ S → b ≡ c
one_truth true true S p q = refl
one_truth false false S p q = refl
one_truth true false S p q = absurd (false≢true (q.1 (p.0 refl)))
one_truth false true S p q = absurd (false≢true (p.1 (q.0 refl)))

one_answer : (Selects : Datom → Type 0) (d : Datom) (b c : Bool) → IsAnswer Selects d b → IsAnswer Selects d c → b ≡ c
one_answer Selects d b c is also = go (is_datom d) refl
  where
    go : (tested : Bool) → is_datom d ≡ tested → b ≡ c
    go true tested =
        ∥∥₁_elim (is.held (tested_datom d tested)) (hlevel props)
        (λ p. ∥∥₁_elim (also.held (tested_datom d tested)) (hlevel props) (one_truth b c (Selects d) p))
    go false tested =
        let none : IsDatom d → ⊥ = λ held. true≢false (sym (datom_tested d held) ∙ tested) in is.other none ∙ sym (also.other none)

pub Decided-prop : (Selects : Datom → Type 0) → IsProp (Decided Selects)
Decided-prop Selects x y = λ i.
    record {
      passes = λ d. one_answer Selects d (x.passes d) (y.passes d) (x.answers d) (y.answers d) i;
      answers = λ d.
          is_prop→PathP (λ j. IsAnswer Selects d (one_answer Selects d (x.passes d) (y.passes d) (x.answers d) (y.answers d) j))
          (λ j. IsAnswer-prop Selects d (one_answer Selects d (x.passes d) (y.passes d) (x.answers d) (y.answers d) j))
          (x.answers d) (y.answers d) i;
    }

-- the function, where it is known that there is one
abbrev pub passes_of : {Selects : Datom → Type 0} → ∥ Decided Selects ∥₁ → Datom → Bool
passes_of {Selects} known = (∥∥₁_elim known (Decided-prop Selects) (λ decided. decided)).passes
