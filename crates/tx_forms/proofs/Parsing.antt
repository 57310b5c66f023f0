-- One form more of a transaction.
use Rattle.std.proofs.Common.{◌≡◌, ℕ, ◌+◌, Bool, true, false, not, List, [], ◌∷◌, ◌++◌, map, cond, refl, ap, sym}
use Rattle.std.specs.Prelude.{Some, None}
use Rattle.std.specs.Bool.{then_some}
use Rattle.std.proofs.lemmas.Option.{none-some, same_Some}
use Rattle.edn_model.specs.Form.{Form}
use Rattle.tx_model.specs.Shapes.{has_shape}
use Rattle.tx_model.specs.Step.{first_yes}
use Rattle.tx_forms.specs.declared.forms.TxForm.{TxForm}
use Rattle.tx_forms.specs.Parts.{Parts, parts_in, parts_of}

by_test : (b : Bool) (one other : Parts) → Some one ≡ then_some b other → (b ≡ true) × (one ≡ other)
by_test true one other is = (refl, same_Some one other is)
by_test false one other is = absurd (none-some one (sym is))

by_no_test : (b : Bool) (parts : Parts) → None ≡ then_some b parts → b ≡ false
by_no_test true parts is = absurd (none-some parts is)
by_no_test false parts is = refl

pub shaped : (form : TxForm) (f : Form) → Some (parts_of form) ≡ then_some (has_shape f) (parts_in f)
    → (has_shape f ≡ true) × (parts_of form ≡ parts_in f)
shaped form f is = by_test (has_shape f) (parts_of form) (parts_in f) is

pub unshaped : (f : Form) → None ≡ then_some (has_shape f) (parts_in f) → has_shape f ≡ false
unshaped f is = by_no_test (has_shape f) (parts_in f) is

pub first_here : (n : ℕ) (f : Form) (fs : List Form) → has_shape f ≡ false → first_yes n (map (λ f. not (has_shape f)) (f ∷ fs)) ≡ Some n
first_here n f fs bad = ap (λ b. cond (not b) (Some n) (first_yes (n + 1) (map (λ f. not (has_shape f)) fs))) bad

pub first_later : (n : ℕ) (f : Form) (fs : List Form) → has_shape f ≡ true
    → first_yes n (map (λ f. not (has_shape f)) (f ∷ fs)) ≡ first_yes (n + 1) (map (λ f. not (has_shape f)) fs)
first_later n f fs good = ap (λ b. cond (not b) (Some n) (first_yes (n + 1) (map (λ f. not (has_shape f)) fs))) good

pub one_more : (forms : List TxForm) (form : TxForm) (f : Form) (fs : List Form) → parts_of form ≡ parts_in f
    → map parts_of (forms ++ form ∷ []) ++ map parts_in fs ≡ map parts_of forms ++ map parts_in (f ∷ fs)
one_more [] form f fs is = ap (λ parts. parts ∷ map parts_in fs) is
one_more (first ∷ forms) form f fs is = ap (λ rest. parts_of first ∷ rest) (one_more forms form f fs is)
