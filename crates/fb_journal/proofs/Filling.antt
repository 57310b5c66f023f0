-- A buffer that is filled with a file from its front.
use Rattle.std.proofs.Common.{◌≡◌, ◌+◌, ◌≤◌, ℕ, List, ◌++◌, length, take, drop, sym, ◌∙◌, ap, arith, length-take}
use Rattle.std.proofs.lemmas.List.{take-append-le}
use Rattle.std.proofs.Math.Seq.{take-add, take-append-add}

pub filled-more : (buf part behind file : List ℕ) (at count : ℕ) → at ≤ length buf → take at buf ≡ take at file → count ≤ length part
    → take count part ≡ take count (drop at file)
    → take (at + count) (take at buf ++ (part ++ behind)) ≡ take (at + count) file
filled-more buf part behind file at count within so_far fits more =
    let front : length (take at buf) ≡ at = omega (arith, length-take at buf) in
    ap (λ (k : ℕ). take (k + count) (take at buf ++ (part ++ behind))) (sym front)
    ∙ take-append-add (take at buf) (part ++ behind) count
    ∙ ap (λ (l : List ℕ). take at buf ++ l) (take-append-le count part behind fits ∙ more)
    ∙ ap (λ (l : List ℕ). l ++ take count (drop at file)) so_far
    ∙ sym (take-add at count file)
