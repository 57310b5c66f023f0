-- The byte behind a sign and digits.
use Rattle.std.proofs.Common.{◌≡◌, ◌≢◌, ℕ, ◌<◌, true, false, Option, Some, None, List, [], ◌∷◌, ◌++◌, length, slice_get, refl, ap, ◌∙◌, sym}
use Rattle.std.proofs.Common.{subst, arith, inl, inr}
use Rattle.std.proofs.lemmas.Bool.Decides.{nat_tests}
use Rattle.edn_model.specs.Runs.{Each, IsRun}
use Rattle.edn_model.specs.Bytes.{plus, minus, is_digit}
use Rattle.edn_model.specs.Faults.{DigitsBefore}
use Rattle.edn_model.proofs.Runs.{one_run, heads, tails}
use Rattle.edn_token.specs.Judged.{Unsigned, behind_plus, behind_minus, without_sign, MarkIs}
use Rattle.edn_token.proofs.NoTokens.{digits_begin, is_mark}

no_sign_digit : (token body after digits : List ℕ) (b : ℕ) → token ≡ b ∷ body → token ≡ digits ++ after → 0 < length digits
    → Each is_digit digits → is_digit b ≡ false → ⊥
no_sign_digit token body after digits b is js some each fails =
    let begin : is_digit b ≡ true = digits_begin digits after body b some each (sym js ∙ is) in
    cc

-- digits and what follows them stand behind the sign
body_of : (mark : ℕ) (token body : List ℕ) → Unsigned token body → (h : DigitsBefore mark token) → body ≡ h.digits ++ mark ∷ h.more
body_of mark token body (behind_plus is) h =
    let after = h.digits ++ mark ∷ h.more in
    elim h.signs [
      | inl none ↦ absurd (no_sign_digit token body (mark ∷ h.more) h.digits plus is (h.is ∙ ap (λ z. z ++ after) none) h.some h.each refl)
      | inr (inl sign) ↦ tails (sym is ∙ h.is ∙ ap (λ z. z ++ after) sign)
      | inr (inr sign) ↦ absurd (let wrong : plus ≡ minus = heads (sym is ∙ h.is ∙ ap (λ z. z ++ after) sign) in omega arith)
    ]
body_of mark token body (behind_minus is) h =
    let after = h.digits ++ mark ∷ h.more in
    elim h.signs [
      | inl none ↦ absurd (no_sign_digit token body (mark ∷ h.more) h.digits minus is (h.is ∙ ap (λ z. z ++ after) none) h.some h.each refl)
      | inr (inl sign) ↦ absurd (let wrong : minus ≡ plus = heads (sym is ∙ h.is ∙ ap (λ z. z ++ after) sign) in omega arith)
      | inr (inr sign) ↦ tails (sym is ∙ h.is ∙ ap (λ z. z ++ after) sign)
    ]
body_of mark token _ (without_sign no_plus no_minus) h =
    let after = h.digits ++ mark ∷ h.more in
    elim h.signs [
      | inl none ↦ h.is ∙ ap (λ z. z ++ after) none
      | inr (inl sign) ↦ absurd (no_plus after (h.is ∙ ap (λ z. z ++ after) sign))
      | inr (inr sign) ↦ absurd (no_minus after (h.is ∙ ap (λ z. z ++ after) sign))
    ]

pub record SameRun (digits run : List ℕ) (mark : ℕ) (rest : List ℕ) : Type 0 where
  pub more : List ℕ
  pub digits_are : digits ≡ run
  pub rest_is : mark ∷ more ≡ rest

run_of : (mark : ℕ) (token body run rest : List ℕ) → Unsigned token body → IsRun is_digit body run rest → is_digit mark ≡ false
    → (h : DigitsBefore mark token) → SameRun h.digits run mark rest
run_of mark token body run rest sign is none h =
    let same =
    one_run is_digit h.digits run (mark ∷ h.more) rest h.each is.each none is.stops (sym (body_of mark token body sign h) ∙ is.is) in
    record { more = h.more; digits_are = same.0; rest_is = same.1 }

pub no_digits : (token body run rest : List ℕ) → Unsigned token body → IsRun is_digit body run rest → length run ≡ 0 → MarkIs token None
no_digits token body run rest sign is empty = λ mark none h.
    let same = run_of mark token body run rest sign is none h in
    let some = h.some in
    omega (arith, ap length same.digits_are)

no_more : (token body run rest : List ℕ) → Unsigned token body → IsRun is_digit body run rest → rest ≡ [] → MarkIs token None
no_more token body run rest sign is empty = λ mark none h.
    let same = run_of mark token body run rest sign is none h in
    let wrong = same.rest_is ∙ empty in
    cc

digits_before : (token body run rest more : List ℕ) (mark : ℕ) → Unsigned token body → IsRun is_digit body run rest → 0 < length run
    → rest ≡ mark ∷ more → DigitsBefore mark token
digits_before token body run rest more mark (behind_plus e) is some next =
    record {
      sign = plus ∷ [];
      digits = run;
      more = more;
      is = e ∙ ap (λ z. plus ∷ z) (is.is ∙ ap (λ z. run ++ z) next);
      signs = inr (inl refl);
      some = some;
      each = is.each;
    }
digits_before token body run rest more mark (behind_minus e) is some next =
    record {
      sign = minus ∷ [];
      digits = run;
      more = more;
      is = e ∙ ap (λ z. minus ∷ z) (is.is ∙ ap (λ z. run ++ z) next);
      signs = inr (inr refl);
      some = some;
      each = is.each;
    }
digits_before token _ run rest more mark (without_sign no_plus no_minus) is some next =
    record { sign = []; digits = run; more = more; is = is.is ∙ ap (λ z. run ++ z) next; signs = inl refl; some = some; each = is.each }

mark_there : (token body run rest more : List ℕ) (mark : ℕ) → Unsigned token body → IsRun is_digit body run rest → 0 < length run
    → rest ≡ mark ∷ more → MarkIs token (Some mark)
mark_there token body run rest more mark sign is some next = (
  digits_before token body run rest more mark sign is some next,
  λ other none h. heads ((run_of other token body run rest sign is none h).rest_is ∙ next),
)

-- the byte behind the digits, if there is one
pub mark_is : (token body run rest : List ℕ) (r : Option ℕ) → Unsigned token body → IsRun is_digit body run rest → 0 < length run
    → r ≡ slice_get rest 0 → MarkIs token r
mark_is token body run [] r sign is some e = subst (MarkIs token) (sym e) (no_more token body run [] sign is refl)
mark_is token body run (b ∷ rest) r sign is some e =
    subst (MarkIs token) (sym e) (mark_there token body run (b ∷ rest) rest b sign is some refl)

pub unsigned_end : (token : List ℕ) → length token ≡ 0 → Unsigned token token
unsigned_end token none = without_sign (λ more e. omega (arith, ap length e)) (λ more e. omega (arith, ap length e))

pub unsigned_first : (token behind : List ℕ) (b : ℕ) → token ≡ b ∷ behind → b ≢ plus → b ≢ minus → Unsigned token token
unsigned_first token behind b is no_plus no_minus =
    without_sign (λ more e. no_plus (heads (sym is ∙ e))) (λ more e. no_minus (heads (sym is ∙ e)))

mark_no_digit : (b : ℕ) → is_mark b ≡ true → is_digit b ≡ false
mark_no_digit b h = grind (arith, nat_tests)

-- no other byte marks the number
pub no_mark : (token : List ℕ) (mark : ℕ) → MarkIs token (Some mark) → is_mark mark ≡ false → (other : ℕ) → is_mark other ≡ true
    → ¬ DigitsBefore other token
no_mark token mark is fails other passes h =
    let same : is_mark other ≡ is_mark mark = ap is_mark (is.1 other (mark_no_digit other passes) h) in
    cc

pub no_mark_at_all : (token : List ℕ) → MarkIs token None → (other : ℕ) → is_mark other ≡ true → ¬ DigitsBefore other token
no_mark_at_all token is other passes h = is other (mark_no_digit other passes) h
