-- Several of a kind, read one after another, where what fits depends on what stands before.
use Rattle.std.proofs.Common.{◌≡◌, ◌<◌, ◌≤◌, ◌+◌, ◌-◌, ℕ, suc, Bool, true, cond, List, [], ◌∷◌, ◌++◌, refl, sym, ap, subst, ◌∙◌}
use Rattle.std.proofs.Common.{append_assoc, arith}
use Rattle.std.specs.Prelude.{fold}
use Rattle.std.proofs.lemmas.List.{append-nil}
use Rattle.log_model.specs.Fields.{Reading, found, misfit, and_then, mapped, that_fits, at_end}
use Rattle.log_model.specs.Merges.{several_over}
use Rattle.fb_codec.specs.Answers.{Misses}
use Rattle.fb_codec.specs.declared.faults.BytesFault.{BytesFault}
use Rattle.fb_codec.specs.declared.faults.BytesFault.TheVariants.{At, Memory}

pub fold-push : {S A : Type 0} (after : S → A → S) (s : S) (front : List A) (a : A)
    → fold after s (front ++ a ∷ []) ≡ after (fold after s front) a
fold-push after s [] a = refl
fold-push after s (x ∷ front) a = fold-push after (after s x) front a

-- those in front, and what is read behind them
abbrev pub with_front : {A : Type 0} → List A → Reading (List A) → Reading (List A)
with_front front reading = mapped (λ more. front ++ more) reading

pub with_none : {A : Type 0} (reading : Reading (List A)) → with_front [] reading ≡ reading
with_none (found more rest) = refl
with_none (misfit rest) = refl

pub one_more : {A : Type 0} (front : List A) (a : A) (reading : Reading (List A))
    → with_front front (mapped (λ more. a ∷ more) reading) ≡ with_front (front ++ a ∷ []) reading
one_more front a (found more rest) = ap (λ items. found items rest) (sym (append_assoc front (a ∷ []) more))
one_more front a (misfit rest) = refl

module _ {S A : Type 0} (read : S → List ℕ → Reading A) (after : S → A → S) where
  abbrev next : S → ℕ → A → List ℕ → Reading (List A)
  next now n a rest = mapped (λ more. a ∷ more) (several_over read after (after now a) n rest)

  module _ (front : List A) (now : S) (count i : ℕ) (here : List ℕ) (total : Reading (List A))
      (so_far : with_front front (several_over read after now (count - i) here) ≡ total) where
    first_of : i < count → with_front front (and_then (read now here) (next now (count - (i + 1)))) ≡ total
    first_of below =
        let more : count - i ≡ suc (count - (i + 1)) = omega arith in
        ap (λ n. with_front front (several_over read after now n here)) (sym more) ∙ so_far

    pub goes_on : (a : A) (rest : List ℕ) → i < count → read now here ≡ found a rest
        → with_front (front ++ a ∷ []) (several_over read after (after now a) (count - (i + 1)) rest) ≡ total
    goes_on a rest below is =
        sym (one_more front a (several_over read after (after now a) (count - (i + 1)) rest))
        ∙ ap (λ r. with_front front (and_then r (next now (count - (i + 1))))) (sym is)
        ∙ first_of below

    pub is_done : count ≤ i → total ≡ found front here
    is_done past =
        let none : count - i ≡ 0 = omega arith in
        sym so_far ∙ ap (λ n. with_front front (several_over read after now n here)) none
        ∙ ap (λ items. found items here) (append-nil front)

    pub stops : (bytes : List ℕ) (fault : BytesFault) → i < count → Misses bytes fault (read now here) → Misses bytes fault total
    stops bytes (At byte) below misses = (
      misses.0,
      sym (first_of below) ∙ ap (λ r. with_front front (and_then r (next now (count - (i + 1))))) misses.1,
    )
    stops bytes Memory below misses = tt

-- ---- faults that stay where they are

pub then_misses : {A B : Type 0} (bytes : List ℕ) (fault : BytesFault) (reading : Reading A) (next : A → List ℕ → Reading B)
    → Misses bytes fault reading → Misses bytes fault (and_then reading next)
then_misses bytes (At byte) reading next misses = (misses.0, ap (λ r. and_then r next) misses.1)
then_misses bytes Memory reading next misses = tt

pub same_misses : {A : Type 0} (bytes : List ℕ) (fault : BytesFault) (reading other : Reading A) → reading ≡ other
    → Misses bytes fault other → Misses bytes fault reading
same_misses bytes fault reading other same misses = subst (Misses bytes fault) (sym same) misses

pub end_misses : {A : Type 0} (bytes : List ℕ) (fault : BytesFault) (reading : Reading A) → Misses bytes fault reading
    → Misses bytes fault (at_end reading)
end_misses bytes (At byte) reading misses = (misses.0, ap at_end misses.1)
end_misses bytes Memory reading misses = tt

pub mapped_misses : {A B : Type 0} (f : A → B) (bytes : List ℕ) (fault : BytesFault) (reading : Reading A) → Misses bytes fault reading
    → Misses bytes fault (mapped f reading)
mapped_misses f bytes (At byte) reading misses = (misses.0, ap (mapped f) misses.1)
mapped_misses f bytes Memory reading misses = tt

pub fits_found : {A : Type 0} (test : A → Bool) (read : List ℕ → Reading A) (bytes : List ℕ) (a : A) (rest : List ℕ)
    → read bytes ≡ found a rest → test a ≡ true → that_fits test read bytes ≡ found a rest
fits_found test read bytes a rest is passes =
    ap (λ r. and_then r (λ x behind. cond (test x) (found x behind) (misfit bytes))) is
    ∙ ap (λ b. cond b (found a rest) (misfit bytes)) passes
