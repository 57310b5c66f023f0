-- A place in a text is known by what stands behind it.
use Rattle.std.proofs.Common.{◌≡◌, ℕ, ◌≤◌, ◌-◌, List, length, drop, ap, ◌∙◌, sym, arith, length-drop}

-- two places with the same bytes behind them are one place
pub one_place : (bytes : List ℕ) (i j : ℕ) → i ≤ length bytes → j ≤ length bytes → drop i bytes ≡ drop j bytes → i ≡ j
one_place bytes i j hi hj e =
    let same : length bytes - i ≡ length bytes - j = sym (length-drop i bytes) ∙ ap length e ∙ length-drop j bytes in
    omega arith
