-- Runs of bytes that need no escape.
use Rattle.std.proofs.Common.{◌≡◌, ℕ, ◌+◌, ◌<◌, ◌≤◌, true, false, List, [], ◌∷◌, ◌++◌, length, length-append, take, drop, flat_map, refl}
use Rattle.std.proofs.Common.{ap, ◌∙◌, sym, subst, arith}
use Rattle.std.proofs.lemmas.List.{append_assoc, append-nil, take-append-drop}
use Rattle.std.proofs.lemmas.List.Concat.{flat_map-append}
use Rattle.std.proofs.lemmas.List.Sums.{prefix_len-le-length}
use Rattle.std.specs.Prelude.{◌==◌, ◌&&◌, not}
use Rattle.std.specs.List.{prefix_len}
use Rattle.edn_model.specs.Bytes.{quote, backslash}
use Rattle.edn_model.specs.Runs.{Each, Stops, IsRun}
use Rattle.edn_model.specs.Canon.{escaped}
use Rattle.edn_model.proofs.Runs.{both, Each-tail, prefix_passes, prefix_stops}
use Rattle.edn_model.proofs.OneForm.{not_true}
use Rattle.edn_print.specs.Printed.{is_unescaped}

itself : (b : ℕ) → is_unescaped b ≡ true → escaped b ≡ b ∷ []
itself b h =
    let four = both (not (b == 9) && not (b == 10) && not (b == 13) && not (b == quote)) (not (b == backslash)) h in
    let three = both (not (b == 9) && not (b == 10) && not (b == 13)) (not (b == quote)) four.0 in
    let two = both (not (b == 9) && not (b == 10)) (not (b == 13)) three.0 in
    let one = both (not (b == 9)) (not (b == 10)) two.0 in
    let tab : (b == 9) ≡ false = not_true (b == 9) one.0 in
    let feed : (b == 10) ≡ false = not_true (b == 10) one.1 in
    let back : (b == 13) ≡ false = not_true (b == 13) two.1 in
    let mark : (b == quote) ≡ false = not_true (b == quote) three.1 in
    let slash : (b == backslash) ≡ false = not_true (b == backslash) four.1 in
    rw (tab, feed, back, mark, slash) refl

pub plain_text : (s : List ℕ) → Each is_unescaped s → flat_map escaped s ≡ s
plain_text [] h = refl
plain_text (b ∷ s) h =
    let parts = Each-tail is_unescaped b s h in
    ap (λ (x : List ℕ). x ++ flat_map escaped s) (itself b parts.0) ∙ ap (λ (x : List ℕ). b ∷ x) (plain_text s parts.1)

-- ---- the run in front

pub run_fits : (bytes : List ℕ) (n : ℕ) → n ≡ prefix_len is_unescaped bytes → n ≤ length bytes
run_fits bytes n e = omega (arith, prefix_len-le-length is_unescaped bytes)

pub run_split : (bytes run rest : List ℕ) (n : ℕ) → n ≡ prefix_len is_unescaped bytes → run ≡ take n bytes → rest ≡ drop n bytes
    → IsRun is_unescaped bytes run rest
run_split bytes run rest n e front back = record {
  is = sym (take-append-drop n bytes) ∙ ap (λ z. z ++ drop n bytes) (sym front) ∙ ap (λ z. run ++ z) (sym back);
  each = subst (Each is_unescaped) (sym (front ∙ ap (λ k. take k bytes) e)) (prefix_passes is_unescaped bytes);
  stops = subst (Stops is_unescaped) (sym (back ∙ ap (λ k. drop k bytes) e)) (prefix_stops is_unescaped bytes);
}

-- ---- a run and what follows it, printed

pub run_printed : (total out plain_out next rest plain behind after : List ℕ) (b : ℕ) → out ++ flat_map escaped rest ≡ total
    → IsRun is_unescaped rest plain behind
    → plain_out ≡ out ++ plain → behind ≡ b ∷ after → next ≡ plain_out ++ escaped b → next ++ flat_map escaped after ≡ total
run_printed total out plain_out next rest plain behind after b so_far run a first e =
    let text : flat_map escaped rest ≡ plain ++ (escaped b ++ flat_map escaped after) =
    ap (flat_map escaped) (run.is ∙ ap (λ (z : List ℕ). plain ++ z) first)
    ∙ flat_map-append escaped plain (b ∷ after)
    ∙ ap (λ (z : List ℕ). z ++ flat_map escaped (b ∷ after)) (plain_text plain run.each) in
    let whole : next ++ flat_map escaped after ≡ ((out ++ plain) ++ escaped b) ++ flat_map escaped after =
    ap (λ (z : List ℕ). z ++ flat_map escaped after) (e ∙ ap (λ (z : List ℕ). z ++ escaped b) a) in
    let here : next ++ flat_map escaped after ≡ out ++ (plain ++ (escaped b ++ flat_map escaped after)) = whole ∙ simp append_assoc in
    here ∙ ap (λ (z : List ℕ). out ++ z) (sym text) ∙ so_far

nothing : (bytes : List ℕ) → length bytes ≡ 0 → bytes ≡ []
nothing [] h = refl
nothing (b ∷ bytes) h = absurd (omega arith)

pub last_run_printed : (total out plain_out rest plain behind : List ℕ) → out ++ flat_map escaped rest ≡ total
    → IsRun is_unescaped rest plain behind
    → plain_out ≡ out ++ plain → length behind ≡ 0 → plain_out ≡ total
last_run_printed total out plain_out rest plain behind so_far run a none =
    let text : flat_map escaped rest ≡ plain =
    ap (flat_map escaped) (run.is ∙ ap (λ (z : List ℕ). plain ++ z) (nothing behind none) ∙ append-nil plain) ∙ plain_text plain run.each in
    a ∙ ap (λ (z : List ℕ). out ++ z) (sym text) ∙ so_far

-- what stands behind the run's end is shorter
pub shorter : (rest plain behind after : List ℕ) → IsRun is_unescaped rest plain behind → length after + 1 ≡ length behind
    → length after < length rest
shorter rest plain behind after run h =
    let size : length rest ≡ length plain + length behind = ap length run.is ∙ length-append plain behind in
    omega arith
