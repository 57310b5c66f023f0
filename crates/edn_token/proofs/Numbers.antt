-- More digits spell no smaller number.
use Rattle.std.proofs.Common.{◌≡◌, ℕ, suc, ◌+◌, ◌-◌, ◌*◌, ◌<◌, ◌≤◌, List, [], ◌∷◌, length, take, drop, get_or, fold, ap, ◌∙◌, sym, arith}
use Rattle.std.proofs.lemmas.List.{take-append-drop}
use Rattle.std.proofs.lemmas.List.Sums.{fold-append}
use Rattle.std.proofs.Math.Seq.{drop-cons}
use Rattle.edn_model.specs.Tokens.{number}

abbrev pub with_digit : ℕ → ℕ → ℕ
with_digit n b = n * 10 + (b - 48)

fold_grows : (digits : List ℕ) (n : ℕ) → n ≤ fold with_digit n digits
fold_grows [] n = omega arith
fold_grows (b ∷ digits) n = let more = fold_grows digits (with_digit n b) in omega arith

-- a front with one more digit
pub number_front : (digits : List ℕ) (i : ℕ) → i < length digits → number (take i digits) * 10 + (get_or digits i 0 - 48) ≤ number digits
number_front digits i h =
    let whole : number digits ≡ fold with_digit (number (take i digits)) (drop i digits) =
    ap number (sym (take-append-drop i digits)) ∙ fold-append with_digit 0 (take i digits) (drop i digits) in
    let next : drop i digits ≡ get_or digits i 0 ∷ drop (suc i) digits = drop-cons digits i 0 h in
    let folded : fold with_digit (number (take i digits)) (drop i digits)
    ≡ fold with_digit (with_digit (number (take i digits)) (get_or digits i 0)) (drop (suc i) digits) =
    ap (fold with_digit (number (take i digits))) next in
    let grown = fold_grows (drop (suc i) digits) (with_digit (number (take i digits)) (get_or digits i 0)) in
    omega arith
