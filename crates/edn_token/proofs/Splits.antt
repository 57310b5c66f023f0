-- What `split_at` gives at the length of the run in front.
use Rattle.std.proofs.Common.{◌≡◌, ℕ, Bool, List, ◌++◌, take, drop, length, ◌≤◌, arith, ap, ◌∙◌, sym, subst}
use Rattle.std.proofs.lemmas.List.{take-append-drop}
use Rattle.std.proofs.lemmas.List.Sums.{prefix_len-le-length}
use Rattle.std.specs.List.{prefix_len}
use Rattle.edn_model.specs.Runs.{Each, Stops, IsRun}
use Rattle.edn_model.proofs.Runs.{prefix_passes, prefix_stops}

pub run_fits : (test : ℕ → Bool) (bytes : List ℕ) (n : ℕ) → n ≡ prefix_len test bytes → n ≤ length bytes
run_fits test bytes n e = omega (arith, prefix_len-le-length test bytes)

pub run_split : (test : ℕ → Bool) (bytes run rest : List ℕ) (n : ℕ) → n ≡ prefix_len test bytes → run ≡ take n bytes → rest ≡ drop n bytes
    → IsRun test bytes run rest
run_split test bytes run rest n e front back = record {
  is = sym (take-append-drop n bytes) ∙ ap (λ z. z ++ drop n bytes) (sym front) ∙ ap (λ z. run ++ z) (sym back);
  each = subst (Each test) (sym (front ∙ ap (λ k. take k bytes) e)) (prefix_passes test bytes);
  stops = subst (Stops test) (sym (back ∙ ap (λ k. drop k bytes) e)) (prefix_stops test bytes);
}
