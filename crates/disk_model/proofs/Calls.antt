-- What a write and a cut make of a file is among what a crash may make of it.
use Rattle.std.proofs.Common.{inl, inr, ◌≡◌, ◌+◌, ◌-◌, ◌≤◌, ℕ, List, ◌++◌, length, take, drop, replicate, min, max, refl, sym, ◌∙◌, ap}
use Rattle.std.proofs.Common.{arith, append_assoc, length-append, length-drop}
use Rattle.std.proofs.lemmas.List.{append-nil, take_at, drop_at, take_all, take-take, length-take, length-replicate}
use Rattle.std.proofs.lemmas.Bool.{cases_lt}
use Rattle.disk_model.specs.Disk.{written, Torn, TornCut}

module _ (at : ℕ) (piece file : List ℕ) where
  length-front : length (take at file ++ replicate (at - length file) 0) ≡ at
  length-front =
      omega (
        arith,
        length-append (take at file) (replicate (at - length file) 0),
        length-take at file,
        length-replicate {A = ℕ} (at - length file) 0,
      )

  length-through : length (take at file ++ replicate (at - length file) 0 ++ piece) ≡ at + length piece
  length-through = omega (arith, length-front, length-append (take at file ++ replicate (at - length file) 0) piece)

  pub length-written : length (written at piece file) ≡ max (length file) (at + length piece)
  length-written =
      omega (
        arith,
        length-through,
        length-append (take at file ++ replicate (at - length file) 0 ++ piece) (drop (at + length piece) file),
        length-drop (at + length piece) file,
      )

  split : written at piece file ≡ take at file ++ (replicate (at - length file) 0 ++ (piece ++ drop (at + length piece) file))
  split = simp append_assoc

  pub torn-written : Torn at (length piece) file (written at piece file)
  torn-written = record {
    before =
        ap (λ (l : List ℕ). take (min at (length file)) l) split ∙ take_at (take at file) _ (min at (length file)) (length-take at file);
    behind =
        drop_at (take at file ++ replicate (at - length file) 0 ++ piece) (drop (at + length piece) file)
        (at + length piece) length-through;
    no_shorter = omega (arith, length-written);
    no_longer = omega (arith, length-written);
  }

  -- a write that begins within the file leaves no gap
  pub written-within : at ≤ length file → written at piece file ≡ take at file ++ piece ++ drop (at + length piece) file
  written-within le =
      let none : at - length file ≡ 0 = omega arith in
      ap (λ (n : ℕ). take at file ++ replicate n 0 ++ piece ++ drop (at + length piece) file) none
      ∙ ap (λ (l : List ℕ). l ++ piece ++ drop (at + length piece) file) (append-nil (take at file))

pub torn-same : (at n : ℕ) (file : List ℕ) → Torn at n file file
torn-same at n file = record {
  before = least;
  behind = refl;
  no_shorter = omega arith;
  no_longer = omega arith;
}
  where
    least : take (min at (length file)) file ≡ take at file
    least = elim (cases_lt at (length file)) [
      | inl below ↦ let is : min at (length file) ≡ at = omega arith in ap (λ (n : ℕ). take n file) is
      | inr past ↦
          let is : min at (length file) ≡ length file = omega arith in
          ap (λ (n : ℕ). take n file) is ∙ take_all (length file) file (omega arith) ∙ sym (take_all at file past)
    ]

pub torn_cut-take : (n : ℕ) (file : List ℕ) → TornCut n file (take n file)
torn_cut-take n file = record {
  before = take-take n n file (omega arith);
  no_shorter = omega (arith, length-take n file);
  no_longer = omega (arith, length-take n file);
}

pub torn_cut-same : (n : ℕ) (file : List ℕ) → TornCut n file file
torn_cut-same n file = record { before = refl; no_shorter = omega arith; no_longer = omega arith }
