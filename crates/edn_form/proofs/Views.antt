-- The form of each kind of value, and of a list of values.
use Rattle.std.proofs.Common.{◌≡◌, Bool, ℕ, zero, suc, ℤ, List, [], ◌∷◌, length, option_map, slice_get, refl, ap, rules}
use Rattle.std.proofs.lemmas.List.{length-map}
use Rattle.edn_model.specs.Form as form
use Rattle.fb_text.specs.declared.texts.Text.{Text}
use Rattle.edn_form.specs.declared.form.Edn.{Edn, Nil, Bool as Bool', Int, Str, Sym, Key, List as List', Vector, Map, Set, Inst, Uuid}
use Rattle.edn_form.specs.declared.form.Edn.{the_lemmas}
use Rattle.edn_form.specs.declared.form.Items.{Items}
use Rattle.edn_form.specs.declared.form.Pairs.{Pairs}
use Rattle.edn_form.specs.View.{form_of, forms_of, pairs_of, members, entries}

pub form_of-Nil : form_of Nil ≡ form.nil
form_of-Nil = search (rules, the_lemmas)

pub form_of-Bool : (b : Bool) → form_of (Bool' b) ≡ form.boolean b
form_of-Bool b = search (rules, the_lemmas)

pub form_of-Int : (z : ℤ) → form_of (Int z) ≡ form.integer z
form_of-Int z = search (rules, the_lemmas)

pub form_of-Str : (s : Text) → form_of (Str s) ≡ form.string s
form_of-Str s = search (rules, the_lemmas)

pub form_of-Sym : (s : Text) → form_of (Sym s) ≡ form.symbol s
form_of-Sym s = search (rules, the_lemmas)

pub form_of-Key : (s : Text) → form_of (Key s) ≡ form.keyword s
form_of-Key s = search (rules, the_lemmas)

pub form_of-List : (i : Items) → form_of (List' i) ≡ form.list (form.forms (forms_of (members i)))
form_of-List i = search (rules, the_lemmas)

pub form_of-Vector : (i : Items) → form_of (Vector i) ≡ form.vector (form.forms (forms_of (members i)))
form_of-Vector i = search (rules, the_lemmas)

pub form_of-Map : (p : Pairs) → form_of (Map p) ≡ form.map (form.pairs (pairs_of (entries p)))
form_of-Map p = search (rules, the_lemmas)

pub form_of-Set : (i : Items) → form_of (Set i) ≡ form.set (form.forms (forms_of (members i)))
form_of-Set i = search (rules, the_lemmas)

pub form_of-Inst : (z : ℤ) → form_of (Inst z) ≡ form.instant z
form_of-Inst z = search (rules, the_lemmas)

pub form_of-Uuid : (n : ℕ) → form_of (Uuid n) ≡ form.uuid n
form_of-Uuid n = search (rules, the_lemmas)

-- ---- lists

pub forms_of-length : (es : List Edn) → length (forms_of es) ≡ length es
forms_of-length es = length-map es form_of

pub items-forms : (fs : List form.Form) → form.items (form.forms fs) ≡ fs
items-forms [] = refl
items-forms (f ∷ fs) = ap (λ z. f ∷ z) (items-forms fs)

-- the form at a place is that of the value there
pub forms_of-at : (es : List Edn) (i : ℕ) → slice_get (forms_of es) i ≡ option_map form_of (slice_get es i)
forms_of-at [] i = refl
forms_of-at (e ∷ es) zero = refl
forms_of-at (e ∷ es) (suc i) = forms_of-at es i
