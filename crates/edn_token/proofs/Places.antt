-- Places in a text, each by the bytes from it on.
use Rattle.std.proofs.Common.{◌≡◌, ℕ, ◌+◌, ◌-◌, ◌≤◌, List, ◌++◌, drop, length, length-append, append_assoc, ap, ◌∙◌, sym, arith}
use Rattle.std.proofs.lemmas.List.{drop_at, drop-drop}

-- what stands behind some bytes in front
abbrev pub Behind : List ℕ → List ℕ → Type 0
Behind here rest = (front : List ℕ) × (here ≡ front ++ rest)

pub behind_then : (here between rest : List ℕ) → Behind here between → Behind between rest → Behind here rest
behind_then here between rest h k = (h.0 ++ k.0, h.1 ∙ ap (λ z. h.0 ++ z) k.1 ∙ sym (append_assoc h.0 k.0 rest))

pub behind_short : (here rest : List ℕ) → Behind here rest → length rest ≤ length here
behind_short here rest h = omega (arith, ap length h.1, length-append h.0 rest)

pub behind_drop : (here rest : List ℕ) → Behind here rest → drop (length here - length rest) here ≡ rest
behind_drop here rest h =
    let size : length here ≡ length h.0 + length rest = ap length h.1 ∙ length-append h.0 rest in
    let len = length here - length rest in
    ap (drop len) h.1 ∙ drop_at h.0 rest len (omega arith)

-- a later place, counted from the first
pub behind_drop_more : (here rest : List ℕ) (n : ℕ) → Behind here rest → drop (length here - length rest + n) here ≡ drop n rest
behind_drop_more here rest n h =
    let size : length here ≡ length h.0 + length rest = ap length h.1 ∙ length-append h.0 rest in
    let len = length here - length rest in
    sym (drop-drop n len here) ∙ ap (drop n) (behind_drop here rest h)
