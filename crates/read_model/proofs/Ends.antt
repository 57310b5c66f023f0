-- Ends of points, and bounds of the log's range.
use Rattle.std.proofs.Common.{◌≡◌, ℕ, ◌+◌, ◌-◌, ℤ, pos, ◌+ℤ◌, Bool, true, false, cond, not, ◌&&◌, List, [], ◌∷◌, length, refl, ap, ◌∙◌}
use Rattle.std.proofs.Common.{arith, Some, None, leb}
use Rattle.std.specs.Prelude.{filter, int_le, option_map}
use Rattle.std.proofs.lemmas.Int.{ints}
use Rattle.fb_values.specs.declared.facts.Entry.{Entry}
use Rattle.fb_numbers.specs.Numbers.{transaction_of, greatest_t}
use Rattle.view_model.specs.Window.{end_of_number, end_of_instant}
use Rattle.read_model.specs.Points.{t_of, count_before}

-- the end of a number is behind its t
pub end-t : (n : ℕ) → end_of_number n ≡ option_map (λ t. t + 1) (t_of n)
end-t n = go (leb n greatest_t) (leb (transaction_of 0) n && leb n (transaction_of greatest_t))
  where
    go : (small known : Bool)
        → cond small (Some (n + 1)) (cond known (Some (n - transaction_of 0 + 1)) None)
        ≡ option_map (λ t. t + 1) (cond small (Some n) (cond known (Some (n - transaction_of 0)) None))
    go true known = refl
    go false true = refl
    go false false = refl

same_filter : (p q : Entry → Bool) → ((entry : Entry) → p entry ≡ q entry) → (h : List Entry) → filter p h ≡ filter q h
same_filter p q same [] = refl
same_filter p q same (entry ∷ h) =
    ap (λ b. cond b (entry ∷ filter p h) (filter p h)) (same entry)
    ∙ ap (λ rest. cond (q entry) (entry ∷ rest) rest) (same_filter p q same h)

next_instant : (i z : ℤ) → int_le i z ≡ not (int_le (z +ℤ pos 1) i)
next_instant i z = grind (arith, ints)

-- up to an instant is before the next one
pub end-before : (h : List Entry) (z : ℤ) → end_of_instant h z ≡ count_before h (z +ℤ pos 1)
end-before h z =
    ap length (same_filter (λ entry. int_le entry.instant z) (λ entry. not (int_le (z +ℤ pos 1) entry.instant))
    (λ entry. next_instant entry.instant z) h)
