-- A write into a file that was filled up with zeros.
use Rattle.std.proofs.Common.{inl, inr, ◌≡◌, ◌+◌, ◌-◌, ◌≤◌, ℕ, List, ◌++◌, length, take, drop, replicate, sym, ◌∙◌, ap, arith}
use Rattle.std.proofs.Common.{length-append}
use Rattle.std.proofs.lemmas.List.{append-nil, take-append-le, drop_all, take_all, length-replicate}
use Rattle.std.proofs.lemmas.Bool.{cases_lt}

pub take-filled : (at : ℕ) (file : List ℕ)
    → take at (file ++ replicate (at - length file) 0) ≡ take at file ++ replicate (at - length file) 0
take-filled at file = elim (cases_lt (length file) at) [
  | inl short ↦
      let fills : length (file ++ replicate (at - length file) 0) ≤ at =
      omega (arith, length-append file (replicate (at - length file) 0), length-replicate {A = ℕ} (at - length file) 0) in
      take_all at (file ++ replicate (at - length file) 0) fills
      ∙ ap (λ (l : List ℕ). l ++ replicate (at - length file) 0) (sym (take_all at file (omega arith)))
  | inr long ↦
      let none : at - length file ≡ 0 = omega arith in
      take-append-le at file (replicate (at - length file) 0) long
      ∙ sym (append-nil (take at file))
      ∙ ap (λ (n : ℕ). take at file ++ replicate n 0) (sym none)
]

pub drop-filled : (at n : ℕ) (file : List ℕ) → drop (at + n) (file ++ replicate (at - length file) 0) ≡ drop (at + n) file
drop-filled at n file = elim (cases_lt (length file) at) [
  | inl short ↦
      let fills : length (file ++ replicate (at - length file) 0) ≤ at =
      omega (arith, length-append file (replicate (at - length file) 0), length-replicate {A = ℕ} (at - length file) 0) in
      drop_all (at + n) (file ++ replicate (at - length file) 0) (omega (arith, fills)) ∙ sym (drop_all (at + n) file (omega arith))
  | inr long ↦
      let none : at - length file ≡ 0 = omega arith in
      ap (λ (l : List ℕ). drop (at + n) l) (ap (λ (k : ℕ). file ++ replicate k 0) none ∙ append-nil file)
]

pub ruleset placing = (take-filled, drop-filled)
