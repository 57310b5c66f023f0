-- What a window has of a file.
use Rattle.std.proofs.Common.{◌≡◌, ◌+◌, ◌-◌, ◌≤◌, ℕ, List, ◌++◌, length, take, drop, sym, ◌∙◌, ap, arith}
use Rattle.std.proofs.lemmas.List.{take-take, drop-take, drop-drop, take_at}

-- bytes of the window are those of the file
pub copied : (items file : List ℕ) (start filled at n : ℕ) → start ≤ at → at + n ≤ start + filled
    → take filled items ≡ take filled (drop start file)
    → take n (drop (at - start) items) ≡ take n (drop at file)
copied items file start filled at n behind within same =
    let k : ℕ = at - start in
    let fits : k + n ≤ filled = omega (arith, behind, within) in
    let front : take (k + n) items ≡ take (k + n) (drop start file) =
    sym (take-take (k + n) filled items fits) ∙ ap (λ (l : List ℕ). take (k + n) l) same
    ∙ take-take (k + n) filled (drop start file) fits in
    let place : start + k ≡ at = omega (arith, behind) in
    sym (drop-take k n items)
    ∙ ap (λ (l : List ℕ). drop k l) front
    ∙ drop-take k n (drop start file)
    ∙ ap (λ (l : List ℕ). take n l) (drop-drop k start file)
    ∙ ap (λ (m : ℕ). take n (drop m file)) place

-- the first bytes of a buffer that was written as a whole
pub written-front : (now was : List ℕ) (size n : ℕ) → size ≡ length now → n ≤ size
    → take n (take size (now ++ drop (length now) was)) ≡ take n now
written-front now was size n all fits =
    ap (λ (l : List ℕ). take n l) (take_at now (drop (length now) was) size (sym all))
