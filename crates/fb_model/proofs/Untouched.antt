-- What more datoms leave as it was: the facts that none of them is about.
use Rattle.std.proofs.Common.{◌≡◌, ℕ, Bool, true, false, cond, ◌&&◌, List, [], ◌∷◌, ◌++◌, refl, ap, sym, ◌∙◌, eqb}
use Rattle.std.specs.Prelude.{filter}
use Rattle.std.specs.List.{list_any}
use Rattle.std.proofs.lemmas.Bool.{true≢false, or_parts}
use Rattle.fb_values.specs.declared.facts.Datom.{Datom}
use Rattle.fb_numbers.specs.Numbers.{ident, value_type, cardinality, unique, is_component, index}
use Rattle.fb_model.specs.Facts.{is_of, standing, is_last_assertion, value_of}
use Rattle.fb_model.specs.Schema.{attribute_of, is_about, SaysNothingOf}
use Rattle.fb_model.proofs.Triples.{is_of-true, standing-append, not_followed, filter-kept}

-- a test that tells no two datoms of one triple apart
pub record IsOnTriples (test : Datom → Bool) : Type 0 where
  pub same : (d other : Datom) → is_of d.e d.a d.v other ≡ true → test d ≡ test other

and_false : (b : Bool) → (b && false) ≡ false
and_false false = refl
and_false true = refl

-- a datom that passes is not followed by those that do not
passing : (test : Datom → Bool) → IsOnTriples test → (d : Datom) (more : List Datom) → test d ≡ true → list_any test more ≡ false
    → not_followed more d ≡ true
passing test on d [] pass none = refl
passing test on d (other ∷ more) pass none = go (is_of d.e d.a d.v other) refl (passing test on d more pass (or_parts _ _ none).1)
  where
    go : (same : Bool) → is_of d.e d.a d.v other ≡ same → not_followed more d ≡ true → not_followed (other ∷ more) d ≡ true
    go true is rest = absurd (true≢false (sym pass ∙ on.same d other is ∙ (or_parts (test other) _ none).0))
    go false is rest = rw is rest

filter-passing : (test : Datom → Bool) → IsOnTriples test → (ds more : List Datom) → list_any test more ≡ false
    → filter test (filter (not_followed more) ds) ≡ filter test ds
filter-passing test on [] more none = refl
filter-passing test on (d ∷ ds) more none = go (test d) refl (filter-passing test on ds more none)
  where
    go : (b : Bool) → test d ≡ b → filter test (filter (not_followed more) ds) ≡ filter test ds
        → filter test (filter (not_followed more) (d ∷ ds)) ≡ filter test (d ∷ ds)
    go true is rest = rw (passing test on d more is none, is, rest) refl
    go false is rest =
        rw (filter-kept test (not_followed more d) d (filter (not_followed more) ds), is, and_false (not_followed more d)) rest

filter-standing_none : (test : Datom → Bool) (ds : List Datom) → list_any test ds ≡ false → filter test (standing ds) ≡ []
filter-standing_none test [] none = refl
filter-standing_none test (d ∷ ds) none =
    let parts = or_parts (test d) (list_any test ds) none in
    rw (
      filter-kept test (is_last_assertion d ds) d (standing ds),
      parts.0,
      filter-standing_none test ds parts.1,
      and_false (is_last_assertion d ds),
    ) refl

pub filter-append : (test : Datom → Bool) (xs ys : List Datom) → filter test (xs ++ ys) ≡ filter test xs ++ filter test ys
filter-append test [] ys = refl
filter-append test (x ∷ xs) ys = go (test x) (filter-append test xs ys)
  where
    go : (b : Bool) → filter test (xs ++ ys) ≡ filter test xs ++ filter test ys
        → cond b (x ∷ filter test (xs ++ ys)) (filter test (xs ++ ys)) ≡ cond b (x ∷ filter test xs) (filter test xs) ++ filter test ys
    go true rest = ap (λ l. x ∷ l) rest
    go false rest = rest

append-nil : (ds : List Datom) → ds ++ [] ≡ ds
append-nil [] = refl
append-nil (d ∷ ds) = ap (λ rest. d ∷ rest) (append-nil ds)

-- what passes stands as before, where none of the new datoms passes
pub standing-untouched : (test : Datom → Bool) → IsOnTriples test → (ds more : List Datom) → list_any test more ≡ false
    → filter test (standing (ds ++ more)) ≡ filter test (standing ds)
standing-untouched test on ds more none =
    rw (
      standing-append ds more,
      filter-append test (filter (not_followed more) (standing ds)) (standing more),
      filter-standing_none test more none,
      filter-passing test on (standing ds) more none,
    ) (append-nil (filter test (standing ds)))

-- ---- what is said of one entity under one attribute

is_about-IsOnTriples : (e a : ℕ) → IsOnTriples (is_about e a)
is_about-IsOnTriples e a =
    record { same = λ d other h. let of = is_of-true d.e d.a d.v other h in rw (of.e_is, of.a_is) refl }

abbrev pub has_attribute : ℕ → Datom → Bool
has_attribute a d = eqb d.a a

has_attribute-IsOnTriples : (a : ℕ) → IsOnTriples (has_attribute a)
has_attribute-IsOnTriples a = record { same = λ d other h. let of = is_of-true d.e d.a d.v other h in rw of.a_is refl }

pub value_of-untouched : (ds more : List Datom) (e a : ℕ) → list_any (is_about e a) more ≡ false
    → value_of (standing (ds ++ more)) e a ≡ value_of (standing ds) e a
value_of-untouched ds more e a none = rw (standing-untouched (is_about e a) (is_about-IsOnTriples e a) ds more none) refl

-- an attribute of which nothing new is said is as it was
pub attribute_of-untouched : (ds more : List Datom) (e : ℕ) → SaysNothingOf e more
    → attribute_of (standing (ds ++ more)) e ≡ attribute_of (standing ds) e
attribute_of-untouched ds more e none =
    rw (
      value_of-untouched ds more e ident none.ident_none,
      value_of-untouched ds more e value_type none.type_none,
      value_of-untouched ds more e cardinality none.cardinality_none,
      value_of-untouched ds more e unique none.unique_none,
      value_of-untouched ds more e is_component none.component_none,
      value_of-untouched ds more e index none.index_none,
    ) refl
