-- Scripts: what was read goes on with the next form, and ends.
use Rattle.std.proofs.Common.{ℕ, ◌≡◌, suc, ◌≤◌, List, [], ◌∷◌, ◌++◌, length, refl, sym, ap, ◌∙◌, subst, arith}
use Rattle.edn_model.specs.Form.{Form}
use Rattle.edn_model.specs.Grammar.{FormAt}
use Rattle.edn_model.proofs.OnePlace.{one_next, no_form_in_gap}
use Rattle.edn_model.proofs.OneAnswer.{no_fault_in_gap, no_fault_at_form, one_fault}
use Rattle.talk_model.specs.Script.{Ending, whole, fault, too_many, most_commands, EndsAt, FormsBetween, Script, Begins}

-- one form more
pub FormsBetween-push : (bytes : List ℕ) (at : ℕ) (fs : List Form) (end : ℕ) (f : Form) (next : ℕ) → FormsBetween bytes at fs end
    → FormAt bytes end f next → FormsBetween bytes at (fs ++ f ∷ []) next
FormsBetween-push bytes at [] end f next same read = (next, (let P : ℕ → Type 0 = λ n. FormAt bytes n f next in subst P same read), refl)
FormsBetween-push bytes at (g ∷ gs) end f next between read =
    (between.0, between.1, FormsBetween-push bytes between.0 gs end f next between.2 read)

-- ---- a script has one reading

-- of two lists of forms from one place on, one goes on behind the other
pub data OneGoesOn (bytes : List ℕ) (fs gs : List Form) (m n : ℕ) : Type 0 where
  same : fs ≡ gs → m ≡ n → OneGoesOn bytes fs gs m n
  left_longer : (more : List Form) → fs ≡ gs ++ more → (f : Form) (next : ℕ) → FormAt bytes n f next → suc (length gs) ≤ length fs
      → OneGoesOn bytes fs gs m n
  right_longer : (more : List Form) → gs ≡ fs ++ more → (g : Form) (next : ℕ) → FormAt bytes m g next → suc (length fs) ≤ length gs
      → OneGoesOn bytes fs gs m n

both_after : (bytes : List ℕ) (f g : Form) (fs gs : List Form) (m n : ℕ) → f ≡ g → OneGoesOn bytes fs gs m n
    → OneGoesOn bytes (f ∷ fs) (g ∷ gs) m n
both_after bytes f g fs gs m n e (same forms ends) = same (ap (λ h. h ∷ fs) e ∙ ap (λ hs. g ∷ hs) forms) ends
both_after bytes f g fs gs m n e (left_longer more is next_form next stands longer) =
    left_longer more (ap (λ h. h ∷ fs) e ∙ ap (λ hs. g ∷ hs) is) next_form next stands (omega (arith, longer))
both_after bytes f g fs gs m n e (right_longer more is next_form next stands longer) =
    right_longer more (ap (λ h. h ∷ gs) (sym e) ∙ ap (λ hs. f ∷ hs) is) next_form next stands (omega (arith, longer))

pub one_goes_on : (bytes : List ℕ) (at : ℕ) (fs gs : List Form) (m n : ℕ) → FormsBetween bytes at fs m → FormsBetween bytes at gs n
    → OneGoesOn bytes fs gs m n
one_goes_on bytes at [] [] m n left right = same refl (left ∙ sym right)
one_goes_on bytes at [] (g ∷ gs) m n left right =
    right_longer (g ∷ gs) refl g right.0 (let P : ℕ → Type 0 = λ k. FormAt bytes k g right.0 in subst P (sym left) right.1) (omega arith)
one_goes_on bytes at (f ∷ fs) [] m n left right =
    left_longer (f ∷ fs) refl f left.0 (let P : ℕ → Type 0 = λ k. FormAt bytes k f left.0 in subst P (sym right) left.1) (omega arith)
one_goes_on bytes at (f ∷ fs) (g ∷ gs) m n left right =
    let next = one_next bytes at f g left.0 right.0 left.1 right.1 in
    let right_rest : FormsBetween bytes left.0 gs n =
    (let P : ℕ → Type 0 = λ k. FormsBetween bytes k gs n in subst P (sym next.next) right.2) in
    both_after bytes f g fs gs m n next.same (one_goes_on bytes left.0 fs gs m n left.2 right_rest)

one_ending : (bytes : List ℕ) (count at : ℕ) (a b : Ending) → EndsAt bytes count at a → EndsAt bytes count at b → a ≡ b
one_ending bytes count at whole whole left right = refl
one_ending bytes count at whole (fault what n) left right = absurd (no_fault_in_gap bytes at n what left right)
one_ending bytes count at whole too_many left right = absurd (no_form_in_gap bytes at right.1 right.2 left right.3)
one_ending bytes count at (fault what m) whole left right = absurd (no_fault_in_gap bytes at m what right left)
one_ending bytes count at (fault what m) (fault other n) left right =
    let one = one_fault bytes at m n what other left right in
    ap (λ x. fault x m) one.0 ∙ ap (λ byte. fault other byte) one.1
one_ending bytes count at (fault what m) too_many left right = absurd (no_fault_at_form right.3 left)
one_ending bytes count at too_many whole left right = absurd (no_form_in_gap bytes at left.1 left.2 right left.3)
one_ending bytes count at too_many (fault what n) left right = absurd (no_fault_at_form left.3 right)
one_ending bytes count at too_many too_many left right = refl

-- behind an ending no form follows, but behind as many as there may be
no_form_at_ending : (bytes : List ℕ) (count at more : ℕ) (ending : Ending) (f : Form) (next : ℕ) → EndsAt bytes count at ending
    → FormAt bytes at f next
    → suc count ≤ more → more ≤ most_commands → ⊥
no_form_at_ending bytes count at more whole f next ends stands longer few = no_form_in_gap bytes at f next ends stands
no_form_at_ending bytes count at more (fault what byte) f next ends stands longer few = no_fault_at_form stands ends
no_form_at_ending bytes count at more too_many f next ends stands longer few = omega (arith, ends.0, longer, few)

pub record OneReading (fs gs : List Form) (a b : Ending) : Type 0 where
  pub forms : fs ≡ gs
  pub endings : a ≡ b

one_reading_of : (bytes : List ℕ) (fs gs : List Form) (a b : Ending) (left : Script bytes fs a) (right : Script bytes gs b)
    → OneGoesOn bytes fs gs left.end right.end → OneReading fs gs a b
one_reading_of bytes fs gs a b left right (same forms ends) =
    let moved : EndsAt bytes (length gs) right.end a =
    (let P : List Form → Type 0 = λ hs. EndsAt bytes (length hs) right.end a in
    let Q : ℕ → Type 0 = λ k. EndsAt bytes (length fs) k a in subst P forms (subst Q ends left.ends)) in
    record { forms = forms; endings = one_ending bytes (length gs) right.end a b moved right.ends }
one_reading_of bytes fs gs a b left right (left_longer more is f next stands longer) =
    absurd (no_form_at_ending bytes (length gs) right.end (length fs) b f next right.ends stands longer left.few)
one_reading_of bytes fs gs a b left right (right_longer more is g next stands longer) =
    absurd (no_form_at_ending bytes (length fs) left.end (length gs) a g next left.ends stands longer right.few)

pub one_script : (bytes : List ℕ) (fs gs : List Form) (a b : Ending) → Script bytes fs a → Script bytes gs b → OneReading fs gs a b
one_script bytes fs gs a b left right =
    one_reading_of bytes fs gs a b left right (one_goes_on bytes 0 fs gs left.end right.end left.forms right.forms)

abbrev pub FirstForms : List Form → List Form → Type 0
FirstForms fs gs = (more : List Form) × (gs ≡ fs ++ more)

append_nothing : (fs : List Form) → fs ≡ fs ++ []
append_nothing [] = refl
append_nothing (f ∷ fs) = ap (λ hs. f ∷ hs) (append_nothing fs)

first_forms_of : (bytes : List ℕ) (fs gs : List Form) (ending : Ending) (left : Begins bytes fs) (right : Script bytes gs ending)
    → OneGoesOn bytes fs gs left.end right.end → FirstForms fs gs
first_forms_of bytes fs gs ending left right (same forms ends) = ([], sym forms ∙ append_nothing fs)
first_forms_of bytes fs gs ending left right (left_longer more is f next stands longer) =
    absurd (no_form_at_ending bytes (length gs) right.end (length fs) ending f next right.ends stands longer left.few)
first_forms_of bytes fs gs ending left right (right_longer more is g next stands longer) = (more, is)

-- what a script begins with are its first forms
pub first_forms : (bytes : List ℕ) (fs gs : List Form) (ending : Ending) → Begins bytes fs → Script bytes gs ending → FirstForms fs gs
first_forms bytes fs gs ending left right =
    first_forms_of bytes fs gs ending left right (one_goes_on bytes 0 fs gs left.end right.end left.forms right.forms)
