-- What stands at a gate and in front of the first one, as it is read.
use Rattle.std.proofs.Common.{◌≡◌, ◌+◌, ◌≤◌, ◌∙◌, true, ℕ, List, length, get_or, take, drop, refl, sym, ap, arith, length-take}
use Rattle.std.specs.List.{starts_with}
use lib.Dec.{eqb}
use Rattle.std.proofs.lemmas.Bool.Decides.{Decides-eqb}
use Rattle.std.proofs.lemmas.Slice.Eq.{slice_eq-Decides}
use Rattle.std.proofs.lemmas.List.{take_all, get_or-take, get_or-drop}
use Rattle.fb_journal.specs.Gates.{IsAhead, IsAheadAt}
use Rattle.fb_journal.specs.declared.gates.Ahead.{Ahead}
use Rattle.fb_journal.specs.declared.gates.Ahead.TheVariants.{Closed, CutShort, Record}
use Rattle.fb_journal.specs.declared.windows.Window.{Window}

pub first-byte : (file buf : List ℕ) (gate : ℕ) → buf ≡ take 1 (drop gate file) → get_or buf 0 0 ≡ get_or file gate 0
first-byte file buf gate is =
    ap (λ (l : List ℕ). get_or l 0 0) is
    ∙ get_or-take 1 (drop gate file) 0 0 (omega arith)
    ∙ get_or-drop gate file 0 0
    ∙ ap (λ (n : ℕ). get_or file n 0) (omega arith)

pub stands-open : (file : List ℕ) (gate : ℕ) (ahead : Ahead) → get_or file gate 0 ≡ 1 → IsAhead (drop (gate + 1) file) ahead
    → IsAheadAt file gate ahead
stands-open file gate Closed is stands = absurd stands
stands-open file gate CutShort is stands = (is, stands)
stands-open file gate (Record len) is stands = (is, stands)

-- a window that has nothing has nothing else
pub none-shown : (file : List ℕ) (w : Window) → w.filled ≡ 0 → take w.filled w.bytes.items ≡ take w.filled (drop w.start file)
none-shown file w none = ap (λ (n : ℕ). take n w.bytes.items) none ∙ ap (λ (n : ℕ). take n (drop w.start file)) (sym none)

-- a file whose first bytes were found to be the mark
pub marked-by : (file buf found mark : List ℕ) → true ≡ starts_with eqb buf found → buf ≡ take 15 file → found ≡ mark → length mark ≡ 15
    → take 15 file ≡ mark
marked-by file buf found mark begins is same fifteen =
    let front : found ≡ take (length found) buf = (slice_eq-Decides Decides-eqb found (take (length found) buf) true begins).0 refl in
    let short : length buf ≤ 15 = omega (arith, ap length is, length-take 15 file) in
    sym is
    ∙ sym (take_all 15 buf short)
    ∙ ap (λ (n : ℕ). take n buf) (sym (ap length same ∙ fifteen))
    ∙ sym front
    ∙ same
