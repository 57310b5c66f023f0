-- Words that differ, and commands with more forms than their words have.
use Rattle.std.proofs.Common.{◌≡◌, ◌≢◌, ℕ, ◌-◌, ◌≤◌, false, List, [], ◌∷◌, length, take, drop, get_or, refl, ap, ◌∙◌, sym, arith, None}
use Rattle.std.specs.Prelude.{bytes_eq}
use Rattle.std.proofs.lemmas.Bool.{false_from_ne_true}
use Rattle.std.proofs.lemmas.List.{take_all, length-drop}
use Rattle.std.proofs.lemmas.Slice.Eq.{bytes_eq-Decides}
use Rattle.edn_form.specs.declared.form.Edn.{Edn}
use Rattle.edn_form.specs.View.{form_of, forms_of}
use Rattle.talk_model.specs.Commands as model

-- the word is not this one
pub differs : (one word : List ℕ) → word ≢ one → bytes_eq one word ≡ false
differs one word differ = false_from_ne_true (bytes_eq one word) (λ same. differ (sym ((bytes_eq-Decides one word).0 same)))

-- what a word begins before four forms or more
many_forms : (word : List ℕ) (xs : List Edn) (x : Edn) → 4 ≤ length xs → x ≡ get_or xs 0 x
    → model.named word (model.of_an_index (form_of x) (forms_of (drop 1 xs))) ≡ model.look_named word (forms_of xs)
many_forms word [] x many is = absurd (omega arith)
many_forms word (a ∷ []) x many is = absurd (omega arith)
many_forms word (a ∷ b ∷ []) x many is = absurd (omega arith)
many_forms word (a ∷ b ∷ c ∷ []) x many is = absurd (omega arith)
many_forms word (a ∷ b ∷ c ∷ d ∷ more) x many is =
    ap (λ (e : Edn). model.named word (model.of_an_index (form_of e) (forms_of (b ∷ c ∷ d ∷ more)))) is

-- the same, where what stands behind the first form is a range of them
pub before_many : (word : List ℕ) (xs : List Edn) (x : Edn) → 4 ≤ length xs → x ≡ get_or xs 0 x
    → model.named word (model.of_an_index (form_of x) (forms_of (take (length xs - 1) (drop 1 xs))))
    ≡ model.look_named word (forms_of xs)
before_many word xs x many is =
    let rest : take (length xs - 1) (drop 1 xs) ≡ drop 1 xs = take_all (length xs - 1) (drop 1 xs) (omega (arith, length-drop 1 xs)) in
    ap (λ (es : List Edn). model.named word (model.of_an_index (form_of x) (forms_of es))) rest ∙ many_forms word xs x many is

-- what is no look begins before three forms at most
pub four_forms : (word : List ℕ) (xs : List Edn) → 4 ≤ length xs → None ≡ model.named word (model.before (forms_of xs))
four_forms word [] many = absurd (omega arith)
four_forms word (a ∷ []) many = absurd (omega arith)
four_forms word (a ∷ b ∷ []) many = absurd (omega arith)
four_forms word (a ∷ b ∷ c ∷ []) many = absurd (omega arith)
four_forms word (a ∷ b ∷ c ∷ d ∷ more) many = refl
