-- What every lawful history keeps.
use Rattle.std.proofs.Common.{◌≡◌, ℕ, ◌+◌, ◌≤◌, Bool, true, false, not, ◌&&◌, ◌||◌, List, [], ◌∷◌, ◌++◌, length, refl, ap, sym, ◌∙◌, subst}
use Rattle.std.proofs.Common.{arith, append_assoc, inl, inr, eqb, leb, None}
use Rattle.std.specs.List.{list_any, list_all}
use Rattle.std.proofs.lemmas.Bool.{true≢false, and_parts, and_from, or_cases, eqb-true, eq-eqb, leb-true}
use Rattle.fb_values.specs.declared.facts.Datom.{Datom}
use Rattle.fb_values.specs.declared.facts.Entry.{Entry}
use Rattle.fb_values.specs.declared.facts.Value.{Value}
use Rattle.fb_model.specs.FirstEntry.{first_entry}
use Rattle.fb_model.specs.Facts.{is_of, Holds, facts, standing, values_of, value_eq}
use Rattle.fb_model.specs.Schema.{is_one, is_unique}
use Rattle.fb_model.specs.Laws.{facts_with, keeps_one_value, keeps_one_holder, has_no_other_holder}
use Rattle.fb_model.specs.Lawful.{IsLawful, IsLawfulFrom, IsLawfulAfter, laws_kept, first_broken, least_law}
use Rattle.fb_model.proofs.OneMoreEntry.{said-push}
use Rattle.fb_model.proofs.LawfulHistories.{IsLawful-push}
use Rattle.fb_model.proofs.Triples.{IsOf, is_of-true, holds-facts, value_eq-true, value_eq-refl, or_false}

append-nil : (h : List Entry) → h ++ [] ≡ h
append-nil [] = refl
append-nil (e ∷ h) = ap (λ rest. e ∷ rest) (append-nil h)

-- ---- induction over lawful histories

module _ (P : List Entry → Type 0) (first : P (first_entry ∷ []))
    (next : (h : List Entry) (entry : Entry) → IsLawful h → P h → IsLawfulAfter h entry → P (h ++ entry ∷ [])) where
  along : (h rest : List Entry) → IsLawful h → P h → IsLawfulFrom h rest → P (h ++ rest)
  along h [] lawful holds_so_far more = subst P (sym (append-nil h)) holds_so_far
  along h (entry ∷ rest) lawful holds_so_far more =
      subst P (append_assoc h (entry ∷ []) rest)
      (along (h ++ entry ∷ []) rest (IsLawful-push h entry lawful more.0) (next h entry lawful holds_so_far more.0) more.1)

  pub of_lawful : (h : List Entry) → IsLawful h → P h
  of_lawful [] lawful = absurd lawful
  of_lawful (entry ∷ rest) lawful =
      along (entry ∷ []) rest (lawful.0, tt) (subst (λ e. P (e ∷ [])) (sym lawful.0) first) lawful.1

-- ---- one value and one holder

pub facts-push : (h : List Entry) (entry : Entry) → facts (h ++ entry ∷ []) ≡ facts_with h entry
facts-push h entry = ap standing (said-push h entry)

pub lawful-one_value : (h : List Entry) → IsLawful h → keeps_one_value (facts h) ≡ true
lawful-one_value =
    of_lawful (λ h. keeps_one_value (facts h) ≡ true) refl (λ h entry lawful before after. rw facts-push after.one_value_each)

pub lawful-one_holder : (h : List Entry) → IsLawful h → keeps_one_holder (facts h) ≡ true
lawful-one_holder =
    of_lawful (λ h. keeps_one_holder (facts h) ≡ true) refl (λ h entry lawful before after. rw facts-push after.one_holder_each)

-- an element that passes both tests
pub record PassesBoth (p q : Datom → Bool) (ds : List Datom) : Type 0 where
  pub element : Datom
  pub passes_p : p element ≡ true
  pub passes_q : q element ≡ true

pub both_pass : (p q : Datom → Bool) (ds : List Datom) → list_all p ds ≡ true → list_any q ds ≡ true → PassesBoth p q ds
both_pass p q [] every some = absurd (true≢false (sym some))
both_pass p q (d ∷ ds) every some =
    let parts = and_parts (p d) (list_all p ds) every in
    let next : list_any q ds ≡ true → PassesBoth p q (d ∷ ds) =
    λ more. let rest = both_pass p q ds parts.1 more in
    record { element = rest.element; passes_p = rest.passes_p; passes_q = rest.passes_q } in
    elim (or_cases (q d) (list_any q ds) some) [
      | inl here ↦ record { element = d; passes_p = parts.0; passes_q = here }
      | inr more ↦ next more
    ]

-- the values of an entity are those of its facts
pub values_of-is_of : (ds : List Datom) (e a : ℕ) (v : Value) → list_any (λ x. value_eq x v) (values_of ds e a) ≡ list_any (is_of e a v) ds
values_of-is_of [] e a v = refl
values_of-is_of (d ∷ ds) e a v = go (eqb d.e e && eqb d.a a) refl (values_of-is_of ds e a v)
  where
    go : (b : Bool) → (eqb d.e e && eqb d.a a) ≡ b → list_any (λ x. value_eq x v) (values_of ds e a) ≡ list_any (is_of e a v) ds
        → list_any (λ x. value_eq x v) (values_of (d ∷ ds) e a) ≡ list_any (is_of e a v) (d ∷ ds)
    go true is rest = rw (is, rest) refl
    go false is rest = rw is rest

pub only_value : (vs : List Value) (v w : Value) → length vs ≤ 1 → list_any (λ x. value_eq x v) vs ≡ true
    → list_any (λ x. value_eq x w) vs ≡ true → v ≡ w
only_value [] v w short has_v has_w = absurd (true≢false (sym has_v))
only_value (x ∷ []) v w short has_v has_w =
    sym (value_eq-true x v (sym (or_false (value_eq x v)) ∙ has_v)) ∙ value_eq-true x w (sym (or_false (value_eq x w)) ∙ has_w)
only_value (x ∷ y ∷ vs) v w short has_v has_w = absurd (omega (arith, short))

pub or_true : (a b : Bool) → a ≡ true → (not a || b) ≡ true → b ≡ true
or_true true b is either = either
or_true false b is either = absurd (true≢false (sym is))

at_triple : (facts : List Datom) (d : Datom) (e a : ℕ) (v : Value) → IsOf e a v d
    → (not (is_one facts d.a) || leb (length (values_of facts d.e d.a)) 1) ≡ true
    → (not (is_one facts a) || leb (length (values_of facts e a)) 1) ≡ true
at_triple facts d e a v of short =
    subst (λ y. (not (is_one facts y) || leb (length (values_of facts e y)) 1) ≡ true) of.a_is
    (subst (λ x. (not (is_one facts d.a) || leb (length (values_of facts x d.a)) 1) ≡ true) of.e_is short)

-- an entity has one value of an attribute of cardinality one
pub one_value : (h : List Entry) (e a : ℕ) (v w : Value) → IsLawful h → is_one (facts h) a ≡ true → Holds h e a v → Holds h e a w → v ≡ w
one_value h e a v w lawful one has_v has_w =
    let found =
    both_pass (λ d. not (is_one (facts h) d.a) || leb (length (values_of (facts h) d.e d.a)) 1) (is_of e a v) (facts h)
    (lawful-one_value h lawful) (sym (holds-facts h e a v) ∙ has_v) in
    let of = is_of-true e a v found.element found.passes_q in
    let short = at_triple (facts h) found.element e a v of found.passes_p in
    only_value (values_of (facts h) e a) v w (leb-true _ _ (or_true _ _ one short))
    (values_of-is_of (facts h) e a v ∙ sym (holds-facts h e a v) ∙ has_v)
    (values_of-is_of (facts h) e a w ∙ sym (holds-facts h e a w) ∙ has_w)

-- a value of a unique attribute has one holder
pub one_holder : (h : List Entry) (e f a : ℕ) (v : Value) → IsLawful h → is_unique (facts h) a ≡ true → Holds h e a v → Holds h f a v
    → e ≡ f
one_holder h e f a v lawful unique_one has_e has_f =
    let found =
    both_pass (λ d. not (is_unique (facts h) d.a) || has_no_other_holder (facts h) d) (is_of e a v) (facts h) (lawful-one_holder h lawful)
    (sym (holds-facts h e a v) ∙ has_e) in
    let of = is_of-true e a v found.element found.passes_q in
    let alone : has_no_other_holder (facts h) found.element ≡ true =
    or_true _ _ (ap (is_unique (facts h)) of.a_is ∙ unique_one) found.passes_p in
    let other =
    both_pass (λ other. not (eqb other.a found.element.a && value_eq other.v found.element.v) || eqb other.e found.element.e) (is_of f a v)
    (facts h) alone (sym (holds-facts h f a v) ∙ has_f) in
    let other_of = is_of-true f a v other.element other.passes_q in
    let same : (eqb other.element.a found.element.a && value_eq other.element.v found.element.v) ≡ true =
    and_from _ _ (eq-eqb _ _ (other_of.a_is ∙ sym of.a_is))
    (ap (λ x. value_eq x found.element.v) (other_of.v_is ∙ sym of.v_is) ∙ value_eq-refl found.element.v) in
    sym of.e_is ∙ sym (eqb-true _ _ (or_true _ _ same other.passes_p)) ∙ other_of.e_is

-- ---- the least law

all_kept : (n : ℕ) (bs : List Bool) → first_broken n bs ≡ None → list_all (λ b. b) bs ≡ true
all_kept n [] none = refl
all_kept n (true ∷ bs) none = all_kept (n + 1) bs none
all_kept n (false ∷ bs) none = absurd (cc)

none_broken : (n : ℕ) (bs : List Bool) → list_all (λ b. b) bs ≡ true → first_broken n bs ≡ None
none_broken n [] every = refl
none_broken n (true ∷ bs) every = none_broken (n + 1) bs every
none_broken n (false ∷ bs) every = absurd (true≢false (sym every))

pub lawful-least_law : (h : List Entry) (entry : Entry) → least_law h entry ≡ None → IsLawfulAfter h entry
lawful-least_law h entry none =
    let from_1 = and_parts _ _ (all_kept 1 (laws_kept h entry) none) in
    let from_2 = and_parts _ _ from_1.1 in
    let from_3 = and_parts _ _ from_2.1 in
    let from_4 = and_parts _ _ from_3.1 in
    let from_5 = and_parts _ _ from_4.1 in
    let from_6 = and_parts _ _ from_5.1 in
    let from_7 = and_parts _ _ from_6.1 in
    let from_8 = and_parts _ _ from_7.1 in
    let from_9 = and_parts _ _ from_8.1 in
    let third = and_parts _ _ from_3.0 in
    let ninth = and_parts _ _ from_9.0 in
    let names = and_parts _ _ ninth.0 in
    let changes = and_parts _ _ names.0 in
    record {
      next_t = from_1.0;
      later_instant = from_2.0;
      known_numbers = third.0;
      installed_attributes = third.1;
      typed_values = from_4.0;
      datoms_in_order = from_5.0;
      changes_alone = from_6.0;
      one_value_each = from_7.0;
      one_holder_each = from_8.0;
      whole_attributes = changes.0;
      allowed_changes = changes.1;
      no_reserved_names = names.1;
      own_instant_alone = ninth.1;
    }

pub least_law-lawful : (h : List Entry) (entry : Entry) → IsLawfulAfter h entry → least_law h entry ≡ None
least_law-lawful h entry lawful =
    none_broken 1 (laws_kept h entry)
    (and_from _ _ lawful.next_t (and_from _ _ lawful.later_instant
    (and_from _ _ (and_from _ _ lawful.known_numbers lawful.installed_attributes)
    (and_from _ _ lawful.typed_values (and_from _ _ lawful.datoms_in_order (and_from _ _ lawful.changes_alone
    (and_from _ _ lawful.one_value_each (and_from _ _ lawful.one_holder_each
    (and_from _ _ (and_from _ _ (and_from _ _ (and_from _ _ lawful.whole_attributes lawful.allowed_changes) lawful.no_reserved_names)
    lawful.own_instant_alone) refl)))))))))
