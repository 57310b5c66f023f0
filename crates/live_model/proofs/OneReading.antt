-- A line has one reading.
use Rattle.std.proofs.Common.{◌≡◌, ℕ, List, [], ◌++◌, refl, sym, ap, ◌∙◌, subst}
use Rattle.std.proofs.lemmas.List.{append-nil}
use Rattle.edn_model.specs.Form.{Form}
use Rattle.edn_model.specs.Grammar.{FormAt}
use Rattle.edn_model.proofs.OnePlace.{no_form_in_gap}
use Rattle.edn_model.proofs.OneAnswer.{no_fault_in_gap, no_fault_at_form, one_fault}
use Rattle.talk_model.proofs.OneScript.{OneGoesOn, same, left_longer, right_longer, one_goes_on}
use Rattle.live_model.specs.Readings.{Ending, whole, fault, EndsAt, Says, SaysFirst}

one_ending : (line : List ℕ) (at : ℕ) (a b : Ending) → EndsAt line at a → EndsAt line at b → a ≡ b
one_ending line at whole whole left right = refl
one_ending line at whole (fault what n) left right = absurd (no_fault_in_gap line at n what left right)
one_ending line at (fault what m) whole left right = absurd (no_fault_in_gap line at m what right left)
one_ending line at (fault what m) (fault other n) left right =
    let one = one_fault line at m n what other left right in
    ap (λ x. fault x m) one.0 ∙ ap (λ byte. fault other byte) one.1

no_form_behind : (line : List ℕ) (at : ℕ) (ending : Ending) (f : Form) (next : ℕ) → EndsAt line at ending → FormAt line at f next → ⊥
no_form_behind line at whole f next ends stands = no_form_in_gap line at f next ends stands
no_form_behind line at (fault what byte) f next ends stands = no_fault_at_form stands ends

pub record OneReading (fs gs : List Form) (a b : Ending) : Type 0 where
  pub forms : fs ≡ gs
  pub endings : a ≡ b

reading_of : (line : List ℕ) (fs gs : List Form) (a b : Ending) (left : Says line fs a) (right : Says line gs b)
    → OneGoesOn line fs gs left.end right.end → OneReading fs gs a b
reading_of line fs gs a b left right (same forms ends) =
    let P : ℕ → Type 0 = λ k. EndsAt line k a in
    record { forms = forms; endings = one_ending line right.end a b (subst P ends left.ends) right.ends }
reading_of line fs gs a b left right (left_longer more is f next stands longer) =
    absurd (no_form_behind line right.end b f next right.ends stands)
reading_of line fs gs a b left right (right_longer more is g next stands longer) =
    absurd (no_form_behind line left.end a g next left.ends stands)

pub one_reading : (line : List ℕ) (fs gs : List Form) (a b : Ending) → Says line fs a → Says line gs b → OneReading fs gs a b
one_reading line fs gs a b left right =
    reading_of line fs gs a b left right (one_goes_on line 0 fs gs left.end right.end left.forms right.forms)

abbrev FirstForms : List Form → List Form → Type 0
FirstForms fs gs = (more : List Form) × (gs ≡ fs ++ more)

first_forms_of : (line : List ℕ) (fs gs : List Form) (ending : Ending) (left : SaysFirst line fs) (right : Says line gs ending)
    → OneGoesOn line fs gs left.end right.end → FirstForms fs gs
first_forms_of line fs gs ending left right (same forms ends) = ([], sym forms ∙ sym (append-nil fs))
first_forms_of line fs gs ending left right (left_longer more is f next stands longer) =
    absurd (no_form_behind line right.end ending f next right.ends stands)
first_forms_of line fs gs ending left right (right_longer more is g next stands longer) = (more, is)

pub first_forms : (line : List ℕ) (fs gs : List Form) (ending : Ending) → SaysFirst line fs → Says line gs ending → FirstForms fs gs
first_forms line fs gs ending left right =
    first_forms_of line fs gs ending left right (one_goes_on line 0 fs gs left.end right.end left.forms right.forms)
