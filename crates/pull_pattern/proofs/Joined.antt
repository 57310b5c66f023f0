-- Patterns that are put together from the forms of a vector, or from the pairs of a map.
use Rattle.std.proofs.Common.{◌≡◌, ◌≢◌, ℕ, ◌+◌, ◌<◌, ◌≤◌, List, [], ◌∷◌, ◌++◌, length, drop, get_or, refl, ap, sym, subst, ◌∙◌, true, false}
use Rattle.std.proofs.Common.{cond, ◌==◌, is_some, option_map, ok_or, ap₂, Option, Some, None, Ok, Err}
use Rattle.std.specs.Prelude.{unwrap_or}
use Rattle.std.proofs.lemmas.List.{drop_more, drop_all}
use Rattle.std.proofs.lemmas.Bool.{true≢false}
use Rattle.edn_model.specs.Form.{forms, pairs, vector}
use Rattle.edn_form.specs.declared.form.Edn.{Edn, Vector}
use Rattle.edn_form.specs.declared.form.Items.{Items}
use Rattle.edn_form.specs.View.{form_of, forms_of, pairs_of, members}
use Rattle.edn_form.proofs.Views.{form_of-Vector, items-forms}
use Rattle.pull_model.specs.Patterns.{Pattern, no_items, item, one, joined}
use Rattle.pull_model.specs.Reading.{both, if_any, item_with_options, items_of, item_of, specification, specified, specifications_of}
use Rattle.pull_model.specs.Reading.{below_of, first_bad_from, pattern_in}
use Rattle.pull_model.proofs.Items.{if_any-items, if_any-specifications}
use Rattle.pull_pattern.specs.declared.patterns.Item.{Item}
use Rattle.pull_pattern.specs.View.{model_item, pattern_of}

joined-nil : (p : Pattern) → joined p no_items ≡ p
joined-nil no_items = refl
joined-nil (item i rest) = ap (item i) (joined-nil rest)

joined-assoc : (p q r : Pattern) → joined (joined p q) r ≡ joined p (joined q r)
joined-assoc no_items q r = refl
joined-assoc (item i rest) q r = ap (item i) (joined-assoc rest q r)

pub of_append : (xs ys : List Item) → pattern_of (xs ++ ys) ≡ joined (pattern_of xs) (pattern_of ys)
of_append [] ys = refl
of_append (x ∷ xs) ys = ap (item (model_item x)) (of_append xs ys)

both-assoc : (p q r : Option Pattern) → both (both p q) r ≡ both p (both q r)
both-assoc None q r = refl
both-assoc (Some p) None r = refl
both-assoc (Some p) (Some q) None = refl
both-assoc (Some p) (Some q) (Some r) = ap Some (joined-assoc p q r)

pub both-first : (p : Option Pattern) → both (Some no_items) p ≡ p
both-first None = refl
both-first (Some p) = refl

both-last : (p : Option Pattern) → both p (Some no_items) ≡ p
both-last None = refl
both-last (Some p) = ap Some (joined-nil p)

-- nothing is added to a pattern only where what was to be added is none
none-both : (p q : Pattern) (rest whole : Option Pattern) → both (Some p) (both None rest) ≡ both (Some q) whole → whole ≡ None
none-both p q rest None same = refl
none-both p q rest (Some r) same = absurd (true≢false (sym (ap is_some same)))

-- what was added to a pattern was one
some-both : (p q : Pattern) (o : Option Pattern) → Some q ≡ both (Some p) o → is_some o ≡ true
some-both p q None same = absurd (true≢false (ap is_some same))
some-both p q (Some r) same = refl

pub not_empty : (n : ℕ) → false ≡ (n == 0) → n ≢ 0
not_empty n isnt is = true≢false (sym (subst (λ m. false ≡ (m == 0)) is isnt))

-- ---- the forms of a vector

-- one more is read
pub read_more : (es : List Edn) (i : ℕ) (f : Edn) (list new whole : Option Pattern)
    → both list (items_of (forms (forms_of (drop i es)))) ≡ whole
    → i < length es → f ≡ get_or es i f → new ≡ both list (item_of (form_of f))
    → both new (items_of (forms (forms_of (drop (i + 1) es)))) ≡ whole
read_more es i f list new whole so_far below is news =
    ap (λ p. both p (items_of (forms (forms_of (drop (i + 1) es))))) news
    ∙ both-assoc list (item_of (form_of f)) (items_of (forms (forms_of (drop (i + 1) es))))
    ∙ ap (λ g. both list (items_of (forms (forms_of (g ∷ drop (i + 1) es))))) is
    ∙ sym (ap (λ fs. both list (items_of (forms (forms_of fs)))) (drop_more es i f below))
    ∙ so_far

-- all are read
pub read_all : (es : List Edn) (i : ℕ) (list whole : Option Pattern)
    → both list (items_of (forms (forms_of (drop i es)))) ≡ whole
    → length es ≤ i → list ≡ whole
read_all es i list whole so_far past =
    sym (both-last list) ∙ sym (ap (λ fs. both list (items_of (forms (forms_of fs)))) (drop_all i es past)) ∙ so_far

-- the next one is no item
pub read_none : (es : List Edn) (i : ℕ) (f : Edn) (list first : Pattern) (whole : Option Pattern)
    → both (Some list) (items_of (forms (forms_of (drop i es)))) ≡ both (Some first) whole
    → i < length es → f ≡ get_or es i f → item_of (form_of f) ≡ None → whole ≡ None
read_none es i f list first whole so_far below is none =
    none-both list first (items_of (forms (forms_of (drop (i + 1) es)))) whole
    (ap (λ o. both (Some list) (both o (items_of (forms (forms_of (drop (i + 1) es)))))) (sym none)
    ∙ ap (λ g. both (Some list) (items_of (forms (forms_of (g ∷ drop (i + 1) es))))) is
    ∙ sym (ap (λ fs. both (Some list) (items_of (forms (forms_of fs)))) (drop_more es i f below))
    ∙ so_far)

pub any_items : (es : List Edn) → length es ≢ 0 → if_any (items_of (forms (forms_of es))) ≡ items_of (forms (forms_of es))
any_items [] some = absurd (some refl)
any_items (e ∷ es) some = if_any-items (form_of e) (forms (forms_of es))

-- ---- the pairs of a map

abbrev pub specified_by : Edn × Edn → Option Pattern
specified_by p = option_map one (specification (specified (form_of p.0)) (below_of (form_of p.1)))

pub specify_more : (es : List (Edn × Edn)) (i : ℕ) (p : Edn × Edn) (list new whole : Option Pattern)
    → both list (specifications_of (pairs (pairs_of (drop i es)))) ≡ whole
    → i < length es → p ≡ get_or es i p → new ≡ both list (specified_by p)
    → both new (specifications_of (pairs (pairs_of (drop (i + 1) es)))) ≡ whole
specify_more es i p list new whole so_far below is news =
    ap (λ q. both q (specifications_of (pairs (pairs_of (drop (i + 1) es))))) news
    ∙ both-assoc list (specified_by p) (specifications_of (pairs (pairs_of (drop (i + 1) es))))
    ∙ ap (λ (q : Edn × Edn). both list (specifications_of (pairs (pairs_of (q ∷ drop (i + 1) es))))) is
    ∙ sym (ap (λ ps. both list (specifications_of (pairs (pairs_of ps)))) (drop_more es i p below))
    ∙ so_far

pub specify_all : (es : List (Edn × Edn)) (i : ℕ) (list whole : Option Pattern)
    → both list (specifications_of (pairs (pairs_of (drop i es)))) ≡ whole
    → length es ≤ i → list ≡ whole
specify_all es i list whole so_far past =
    sym (both-last list) ∙ sym (ap (λ ps. both list (specifications_of (pairs (pairs_of ps)))) (drop_all i es past)) ∙ so_far

pub specify_none : (es : List (Edn × Edn)) (i : ℕ) (p : Edn × Edn) (list first : Pattern) (whole : Option Pattern)
    → both (Some list) (specifications_of (pairs (pairs_of (drop i es)))) ≡ both (Some first) whole
    → i < length es → p ≡ get_or es i p → specified_by p ≡ None → whole ≡ None
specify_none es i p list first whole so_far below is none =
    none-both list first (specifications_of (pairs (pairs_of (drop (i + 1) es)))) whole
    (ap (λ o. both (Some list) (both o (specifications_of (pairs (pairs_of (drop (i + 1) es)))))) (sym none)
    ∙ ap (λ (q : Edn × Edn). both (Some list) (specifications_of (pairs (pairs_of (q ∷ drop (i + 1) es))))) is
    ∙ sym (ap (λ ps. both (Some list) (specifications_of (pairs (pairs_of ps)))) (drop_more es i p below))
    ∙ so_far)

pub any_specifications : (es : List (Edn × Edn)) → length es ≢ 0
    → if_any (specifications_of (pairs (pairs_of es))) ≡ specifications_of (pairs (pairs_of es))
any_specifications [] some = absurd (some refl)
any_specifications (e ∷ es) some = if_any-specifications (form_of e.0) (form_of e.1) (pairs (pairs_of es))

-- ---- the outermost pattern

-- the place of the first bad item, from the next form on
pub bad_more : (es : List Edn) (i : ℕ) (f : Edn) (list new : Pattern)
    → first_bad_from i (forms (forms_of (drop i es))) ≡ first_bad_from 0 (forms (forms_of es))
    → i < length es → f ≡ get_or es i f → Some new ≡ both (Some list) (item_of (form_of f))
    → first_bad_from (i + 1) (forms (forms_of (drop (i + 1) es))) ≡ first_bad_from 0 (forms (forms_of es))
bad_more es i f list new so_far below is news =
    sym (ap (λ b. cond b (first_bad_from (i + 1) (forms (forms_of (drop (i + 1) es)))) (Some i))
    (some-both list new (item_of (form_of f)) news))
    ∙ ap (λ g. first_bad_from i (forms (forms_of (g ∷ drop (i + 1) es)))) is
    ∙ sym (ap (λ fs. first_bad_from i (forms (forms_of fs))) (drop_more es i f below))
    ∙ so_far

pub bad_here : (es : List Edn) (i : ℕ) (f : Edn)
    → first_bad_from i (forms (forms_of (drop i es))) ≡ first_bad_from 0 (forms (forms_of es))
    → i < length es → f ≡ get_or es i f → item_of (form_of f) ≡ None
    → first_bad_from 0 (forms (forms_of es)) ≡ Some i
bad_here es i f so_far below is none =
    sym so_far
    ∙ ap (λ fs. first_bad_from i (forms (forms_of fs))) (drop_more es i f below)
    ∙ sym (ap (λ g. first_bad_from i (forms (forms_of (g ∷ drop (i + 1) es)))) is)
    ∙ ap (λ o. cond (is_some o) (first_bad_from (i + 1) (forms (forms_of (drop (i + 1) es)))) (Some i)) none

pub no_pattern : (es : List Edn) (place : ℕ) → length es ≢ 0 → items_of (forms (forms_of es)) ≡ None
    → first_bad_from 0 (forms (forms_of es)) ≡ Some place → pattern_in (vector (forms (forms_of es))) ≡ Err place
no_pattern [] place some none bad = absurd (some refl)
no_pattern (e ∷ es) place some none bad =
    ap₂ (λ o p. ok_or (if_any o) (unwrap_or p 0)) none bad

pub a_pattern : (es : List Edn) (p : Pattern) → length es ≢ 0 → Some p ≡ items_of (forms (forms_of es))
    → pattern_in (vector (forms (forms_of es))) ≡ Ok p
a_pattern [] p some is = absurd (some refl)
a_pattern (e ∷ es) p some is =
    ap (λ o. ok_or o (unwrap_or (first_bad_from 0 (forms (forms_of (e ∷ es)))) 0)) (if_any-items (form_of e) (forms (forms_of es)) ∙ sym is)

-- ---- a vector as an item

pub specified_vector : (i : Items) → specified (form_of (Vector i)) ≡ item_with_options (forms_of (members i))
specified_vector i = ap specified (form_of-Vector i) ∙ ap item_with_options (items-forms (forms_of (members i)))

pub item_of_vector : (i : Items) → item_of (form_of (Vector i)) ≡ option_map one (item_with_options (forms_of (members i)))
item_of_vector i = ap item_of (form_of-Vector i) ∙ ap (λ fs. option_map one (item_with_options fs)) (items-forms (forms_of (members i)))
