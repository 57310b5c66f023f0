-- The forms of a transaction by numbers and by places.
use Rattle.std.proofs.Common.{◌≡◌, ◌≢◌, ℕ, zero, suc, ◌+◌, ◌<◌, pos, List, [], ◌∷◌, ◌++◌, length, map, refl, ap, sym, ◌∙◌, subst, arith}
use Rattle.std.proofs.Common.{append_assoc, length-append}
use Rattle.std.specs.Prelude.{slice_index_or}
use Rattle.edn_model.specs.Form as edn
use Rattle.edn_model.specs.Form.{Form, items}
use Rattle.fb_values.specs.declared.facts.Datom.{Datom}
use Rattle.tx_model.specs.Asks.{number, meets}
use Rattle.tx_model.specs.Shapes.{verb_in}
use Rattle.tx_model.specs.Walk.{list_asks, verb_asks, map_asks, form_asks, asks_from}
use Rattle.tx_forms.specs.Parts.{list_parts_in, parts_in}
use Rattle.tx_asks.specs.Asks.{AreApart}
use Rattle.tx_expand.specs.Numbered.{walk_map, walk_form, walk_forms, next_behind}
use Rattle.tx_expand.specs.Placed.{ask_placed}
use Rattle.tx_expand.proofs.Renaming.{list_stays}
use Rattle.tx_expand.proofs.Numbering.{Has, has_at, has_first, has_second, In, IsNot, NoneTwice, IsUnder, IsFrom, in_map, in_append}
use Rattle.tx_expand.proofs.Numbering.{none_twice_append, under_is_from, later_is_from, parts_differ, Numbering, none, inside, map_numbered}

list_numbered : (facts : List Datom) (place : ℕ) (fs : List Form) (n : ℕ)
    → Numbering (IsUnder (place ∷ [])) (number (pos 0)) (number (pos 0)) n (walk_form facts n (list_parts_in fs)) (verb_asks facts fs)
list_numbered facts place [] n = none (IsUnder (place ∷ [])) (number (pos 0)) (number (pos 0)) n [] [] (λ all is. refl)
list_numbered facts place (first ∷ arguments) n =
    none (IsUnder (place ∷ [])) (number (pos 0)) (number (pos 0)) n
    (list_asks facts (verb_in first) arguments) (list_asks facts (verb_in first) arguments)
    (λ all is. list_stays all facts (verb_in first) arguments)

form_numbered : (facts : List Datom) (place : ℕ) (f : Form) (n : ℕ)
    → Numbering (IsUnder (place ∷ [])) (number (pos 0)) (number (pos 0)) n (walk_form facts n (parts_in f)) (form_asks facts place f)
form_numbered facts place (edn.vector fs) n = list_numbered facts place (items fs) n
form_numbered facts place (edn.list fs) n = list_numbered facts place (items fs) n
form_numbered facts place (edn.map ps) n =
    inside (number (pos 0)) (number (pos 0)) (place ∷ []) n ps (λ name m. walk_map facts name m ps)
    (λ name. map_asks facts name (place ∷ []) 0 ps)
    (λ name xs. meets name ∷ xs) (λ name xs. meets name ∷ xs) (λ all name_n xs is. refl)
    (λ name_n name m. map_numbered facts name_n name (place ∷ []) 0 ps m)
form_numbered facts place f n = none (IsUnder (place ∷ [])) (number (pos 0)) (number (pos 0)) n [] [] (λ all is. refl)

pub record FormsNumbering (facts : List Datom) (place n : ℕ) (fs : List Form) : Type 0 where
  pub places : List (List ℕ)
  pub next : next_behind facts n (map parts_in fs) ≡ n + length places
  pub same : (all : List (List ℕ)) → Has all n places
      → map (map (ask_placed all)) (walk_forms facts n (map parts_in fs)) ≡ asks_from facts place fs
  pub within : In (IsFrom [] place) places
  pub apart : NoneTwice places

pub forms_numbered : (facts : List Datom) (place n : ℕ) (fs : List Form) → FormsNumbering facts place n fs
forms_numbered facts place n [] = record { places = []; next = omega arith; same = λ all has. refl; within = tt; apart = tt }
forms_numbered facts place n (f ∷ fs) =
    let one = form_numbered facts place f n in
    let rest = forms_numbered facts (place + 1) (walk_form facts n (parts_in f)).next fs in
    record {
      places = one.places ++ rest.places;
      next = omega (arith, one.next, rest.next, length-append one.places rest.places);
      same = λ all has.
          ap (λ asks. asks ∷ map (map (ask_placed all)) (walk_forms facts (walk_form facts n (parts_in f)).next (map parts_in fs)))
          (one.same all (has_first all n one.places rest.places has) refl)
          ∙ ap (λ lists. form_asks facts place f ∷ lists)
          (rest.same all (has_at all (n + length one.places) (walk_form facts n (parts_in f)).next rest.places (sym one.next)
          (has_second all n one.places rest.places has)));
      within = in_append (IsFrom [] place) one.places rest.places
          (in_map (IsUnder (place ∷ [])) (IsFrom [] place) (under_is_from [] place) one.places one.within)
          (in_map (IsFrom [] (place + 1)) (IsFrom [] place) (later_is_from [] place) rest.places rest.within);
      apart =
          none_twice_append (IsUnder (place ∷ [])) (IsFrom [] (place + 1))
          (parts_differ [] place) one.places rest.places one.within rest.within one.apart rest.apart;
    }

-- ---- no two places are alike

is_not_at : (p : List ℕ) (ps : List (List ℕ)) (i : ℕ) → IsNot p ps → i < length ps → p ≢ slice_index_or ps i []
is_not_at p [] i other below = absurd (omega (arith, below))
is_not_at p (q ∷ ps) zero other below = other.0
is_not_at p (q ∷ ps) (suc i) other below = is_not_at p ps i other.1 (omega (arith, below))

one_more_apart : (p : List ℕ) (ps : List (List ℕ)) → IsNot p ps → AreApart ps → AreApart (p ∷ ps)
one_more_apart p ps other rest zero zero below below_too same = refl
one_more_apart p ps other rest zero (suc j) below below_too same = absurd (is_not_at p ps j other (omega (arith, below_too)) same)
one_more_apart p ps other rest (suc i) zero below below_too same = absurd (is_not_at p ps i other (omega (arith, below)) (sym same))
one_more_apart p ps other rest (suc i) (suc j) below below_too same =
    ap suc (rest i j (omega (arith, below)) (omega (arith, below_too)) same)

pub all_apart : (ps : List (List ℕ)) → NoneTwice ps → AreApart ps
all_apart [] once = λ i j below other same. absurd (omega (arith, below))
all_apart (p ∷ ps) once = one_more_apart p ps once.0 (all_apart ps once.1)

-- ---- a list of places has its own

has_own : (before ps : List (List ℕ)) (after : List (List ℕ)) (n : ℕ) → length before ≡ n → Has (before ++ (ps ++ after)) n ps
has_own before [] after n is = tt
has_own before (p ∷ ps) after n is = (
  at_length before p (ps ++ after) n is,
  subst (λ all. Has all (n + 1) ps) (append_assoc before (p ∷ []) (ps ++ after))
      (has_own (before ++ p ∷ []) ps after (n + 1) (omega (arith, is, length-append before (p ∷ [])))),
)
  where
    at_length : (before : List (List ℕ)) (p : List ℕ) (rest : List (List ℕ)) (n : ℕ) → length before ≡ n
        → slice_index_or (before ++ p ∷ rest) n [] ≡ p
    at_length [] p rest zero is = refl
    at_length [] p rest (suc n) is = absurd (omega (arith, is))
    at_length (q ∷ before) p rest zero is = absurd (omega (arith, is))
    at_length (q ∷ before) p rest (suc n) is = at_length before p rest n (omega (arith, is))

pub has_all : (ps after : List (List ℕ)) → Has (ps ++ after) 0 ps
has_all ps after = has_own [] ps after 0 refl
