-- The tuples of entities of which an entry says nothing.
use Rattle.std.proofs.Common.{◌≡◌, ℕ, false, List, [], ◌∷◌, ◌++◌, map, refl, sym, ◌∙◌, ap}
use Rattle.std.specs.Prelude.{nat_eq, is_some}
use Rattle.std.specs.List.{list_any}
use Rattle.std.proofs.lemmas.Bool.{and_left, or_parts, or_from}
use Rattle.fb_values.specs.declared.facts.Datom.{Datom}
use Rattle.fb_values.specs.declared.facts.Entry.{Entry}
use Rattle.fb_model.specs.History.{said}
use Rattle.fb_model.specs.Facts.{facts, standing, values_of}
use Rattle.fb_model.specs.Schema.{is_about}
use Rattle.fb_model.proofs.Triples.{is_of-true}
use Rattle.fb_model.proofs.OneMoreEntry.{said-push}
use Rattle.fb_model.proofs.Untouched.{IsOnTriples, standing-untouched}
use Rattle.tuple_model.specs.Tuples.{least_value, tuple_of, has_one_of}
use Rattle.tuple_model.proofs.SeenRows.{has_one_of-some}

is_about-IsOnTriples : (e a : ℕ) → IsOnTriples (is_about e a)
is_about-IsOnTriples e a =
    record { same = λ d other h. let of = is_of-true d.e d.a d.v other h in rw (of.e_is, of.a_is) refl }

about_none : (e a : ℕ) (ds : List Datom) → list_any (λ d. nat_eq d.e e) ds ≡ false → list_any (is_about e a) ds ≡ false
about_none e a [] none = refl
about_none e a (d ∷ ds) none =
    let parts = or_parts (nat_eq d.e e) (list_any (λ x. nat_eq x.e e) ds) none in
    or_from (is_about e a d) (list_any (is_about e a) ds) (and_left (nat_eq d.e e) (nat_eq d.a a) parts.0) (about_none e a ds parts.1)

values_of-untouched : (ds more : List Datom) (e a : ℕ) → list_any (λ d. nat_eq d.e e) more ≡ false
    → values_of (standing (ds ++ more)) e a ≡ values_of (standing ds) e a
values_of-untouched ds more e a none =
    ap (map (λ (d : Datom). d.v)) (standing-untouched (is_about e a) (is_about-IsOnTriples e a) ds more (about_none e a more none))

pub tuple_of-untouched : (h : List Entry) (entry : Entry) (attrs : List ℕ) (e : ℕ) → list_any (λ d. nat_eq d.e e) entry.datoms ≡ false
    → tuple_of (facts (h ++ entry ∷ [])) attrs e ≡ tuple_of (facts h) attrs e
tuple_of-untouched h entry [] e none = refl
tuple_of-untouched h entry (a ∷ attrs) e none =
    let first =
    ap least_value (ap (λ ds. values_of (standing ds) e a) (said-push h entry) ∙ values_of-untouched (said h) entry.datoms e a none) in
    let rest = tuple_of-untouched h entry attrs e none in
    λ i. first i ∷ rest i

pub has_one_of-untouched : (h : List Entry) (entry : Entry) (attrs : List ℕ) (e : ℕ) → list_any (λ d. nat_eq d.e e) entry.datoms ≡ false
    → has_one_of (facts (h ++ entry ∷ [])) attrs e ≡ has_one_of (facts h) attrs e
has_one_of-untouched h entry attrs e none =
    has_one_of-some (facts (h ++ entry ∷ [])) attrs e ∙ ap (list_any is_some) (tuple_of-untouched h entry attrs e none)
    ∙ sym (has_one_of-some (facts h) attrs e)
