-- Several of a kind, read one after another.
use Rattle.std.proofs.Common.{◌≡◌, ◌<◌, ◌≤◌, ◌+◌, ◌-◌, ℕ, suc, List, [], ◌∷◌, ◌++◌, refl, sym, ap, ◌∙◌, append_assoc, arith}
use Rattle.std.proofs.lemmas.List.{append-nil}
use Rattle.log_model.specs.Fields.{Reading, found, misfit, and_then, mapped, several}
use Rattle.fb_codec.specs.Answers.{Misses}
use Rattle.fb_codec.specs.declared.faults.BytesFault.{BytesFault}
use Rattle.fb_codec.specs.declared.faults.BytesFault.TheVariants.{At, Memory}

module _ {A : Type 0} (read : List ℕ → Reading A) where
  -- those in front, and what is read behind them
  abbrev pub with_front : List A → Reading (List A) → Reading (List A)
  with_front front reading = mapped (λ more. front ++ more) reading

  one_more : (front : List A) (a : A) (reading : Reading (List A))
      → with_front front (mapped (λ more. a ∷ more) reading) ≡ with_front (front ++ a ∷ []) reading
  one_more front a (found more rest) = ap (λ items. found items rest) (sym (append_assoc front (a ∷ []) more))
  one_more front a (misfit rest) = refl

  abbrev next : ℕ → A → List ℕ → Reading (List A)
  next n a rest = mapped (λ more. a ∷ more) (several read n rest)

  module _ (front : List A) (count i : ℕ) (here : List ℕ) (total : Reading (List A))
      (so_far : with_front front (several read (count - i) here) ≡ total) where
    first_of : i < count → with_front front (and_then (read here) (next (count - (i + 1)))) ≡ total
    first_of below =
        let more : count - i ≡ suc (count - (i + 1)) = omega arith in
        ap (λ n. with_front front (several read n here)) (sym more) ∙ so_far

    pub goes_on : (a : A) (rest : List ℕ) → i < count → read here ≡ found a rest
        → with_front (front ++ a ∷ []) (several read (count - (i + 1)) rest) ≡ total
    goes_on a rest below is =
        sym (one_more front a (several read (count - (i + 1)) rest))
        ∙ ap (λ r. with_front front (and_then r (next (count - (i + 1))))) (sym is)
        ∙ first_of below

    pub is_done : count ≤ i → total ≡ found front here
    is_done past =
        let none : count - i ≡ 0 = omega arith in
        sym so_far ∙ ap (λ n. with_front front (several read n here)) none ∙ ap (λ items. found items here) (append-nil front)

    pub stops : (bytes : List ℕ) (fault : BytesFault) → i < count → Misses bytes fault (read here) → Misses bytes fault total
    stops bytes (At byte) below misses = (
      misses.0,
      sym (first_of below) ∙ ap (λ r. with_front front (and_then r (next (count - (i + 1))))) misses.1,
    )
    stops bytes Memory below misses = tt
