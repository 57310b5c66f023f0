-- A name finds one entity, and where filters are tests the one that it has by the facts seen.
use Rattle.std.proofs.Common.{◌≡◌, ℕ, ◌≤◌, Bool, true, false, cond, ◌&&◌, List, [], ◌∷◌, min, refl, ap, sym, ◌∙◌, subst, arith, inl, inr}
use Rattle.std.proofs.Common.{◌⊎◌, Option, Some, None, eqb}
use Rattle.std.specs.Prelude.{Contains, IsTrue}
use Rattle.std.proofs.lemmas.Bool.{true≢false, and_parts, and_from, eqb-true, eq-eqb, cases_lt}
use Rattle.fb_values.specs.declared.facts.Datom.{Datom}
use Rattle.fb_values.specs.declared.facts.Entry.{Entry}
use Rattle.fb_values.specs.declared.facts.Value.{Value}
use Rattle.fb_values.specs.declared.facts.Value.TheVariants.{Keyword}
use Rattle.fb_numbers.specs.Numbers.{ident as ident_attribute}
use Rattle.fb_model.specs.Facts.{value_eq, least, holder}
use Rattle.fb_model.proofs.Members.{kept, keep, here, there, cases_of, none_of}
use Rattle.view_model.specs.Window.{Window, without_history}
use Rattle.view_model.specs.View.{seen, is_selected_by, facts_seen}
use Rattle.view_model.specs.Names.{Id, number, ident, lookup, entity_named}
use Rattle.read_model.specs.Finding.{Has, IsHolder, IsNamed}

-- ---- one answer

holder_one : (h : List Entry) (w : Window) (Selects : Datom → Type 0) (a : ℕ) (v : Value) (x y : Option ℕ) → IsHolder h w Selects a v x
    → IsHolder h w Selects a v y → x ≡ y
holder_one h w Selects a v None None none other = refl
holder_one h w Selects a v None (Some e) none is = absurd (none e is.0)
holder_one h w Selects a v (Some e) None is none = absurd (none e is.0)
holder_one h w Selects a v (Some e) (Some f) is other =
    let low = is.1 f other.0 in let lower = other.1 e is.0 in let same : e ≡ f = omega arith in ap Some same

pub named_one : (h : List Entry) (w : Window) (Selects : Datom → Type 0) (id : Id) (x y : Option ℕ) → IsNamed h w Selects id x
    → IsNamed h w Selects id y → x ≡ y
named_one h w Selects (number n) x y is other = is ∙ sym other
named_one h w Selects (ident name) x y is other = holder_one h w Selects ident_attribute (Keyword name) x y is other
named_one h w Selects (lookup a v) x y is other = holder_one h w Selects a v x y is other

-- ---- by tests

abbrev says : ℕ → Value → Datom → Bool
says a v d = eqb d.a a && value_eq d.v v

-- a datom of the list gives the entity the value
record HasIn (ds : List Datom) (a : ℕ) (v : Value) (e : ℕ) : Type 0 where
  datom : Datom
  member : Contains ds datom
  says_it : says a v datom ≡ true
  own : datom.e ≡ e

abbrev IsHolderIn : List Datom → ℕ → Value → Option ℕ → Type 0
IsHolderIn ds a v None = (e : ℕ) → HasIn ds a v e → ⊥
IsHolderIn ds a v (Some e) = HasIn ds a v e × ((other : ℕ) → HasIn ds a v other → e ≤ other)

later : (x : Datom) (ds : List Datom) (a : ℕ) (v : Value) (e : ℕ) → HasIn ds a v e → HasIn (x ∷ ds) a v e
later x ds a v e has = record { datom = has.datom; member = there x has.datom ds has.member; says_it = has.says_it; own = has.own }

-- of a longer list it is the first datom's entity, or an entity of the rest
cases_has : (x : Datom) (ds : List Datom) (a : ℕ) (v : Value) (e : ℕ) → HasIn (x ∷ ds) a v e
    → ((says a v x ≡ true) × (x.e ≡ e)) ⊎ HasIn ds a v e
cases_has x ds a v e has =
    elim (cases_of x has.datom ds has.member) [
      | inl same ↦ inl (subst (λ (y : Datom). says a v y ≡ true) (sym same) has.says_it, ap (λ (y : Datom). y.e) same ∙ has.own)
      | inr behind ↦ inr (record { datom = has.datom; member = behind; says_it = has.says_it; own = has.own })
    ]

holder_in : (ds : List Datom) (a : ℕ) (v : Value) → IsHolderIn ds a v (holder ds a v)
holder_in [] a v = λ e has. none_of has.datom has.member
holder_in (x ∷ ds) a v = go (says a v x) refl (holder ds a v) (holder_in ds a v)
  where
    head : says a v x ≡ true → HasIn (x ∷ ds) a v x.e
    head told = record { datom = x; member = here x ds; says_it = told; own = refl }

    go : (b : Bool) → says a v x ≡ b → (o : Option ℕ) → IsHolderIn ds a v o → IsHolderIn (x ∷ ds) a v (cond b (least x.e o) o)
    go false denied None none =
        λ e has. elim (cases_has x ds a v e has) [ inl first ↦ true≢false (sym first.0 ∙ denied) | inr behind ↦ none e behind ]
    go false denied (Some e) is = (
      later x ds a v e is.0,
      λ other has. elim (cases_has x ds a v other has) [
        | inl first ↦ absurd (true≢false (sym first.0 ∙ denied))
        | inr behind ↦ is.1 other behind
      ],
    )
    go true told None none = (
      head told,
      λ other has. elim (cases_has x ds a v other has) [ inl first ↦ omega (arith, first.1) | inr behind ↦ absurd (none other behind) ],
    )
    go true told (Some e) is =
        elim (cases_lt x.e e) [
          | inl less ↦
              let low : min x.e e ≡ x.e = omega arith in
              rw low (
                head told,
                λ other has. elim (cases_has x ds a v other has) [
                  | inl first ↦ omega (arith, first.1)
                  | inr behind ↦ omega (arith, is.1 other behind)
                ],
              )
          | inr up ↦
              let low : min x.e e ≡ e = omega arith in
              rw low (
                later x ds a v e is.0,
                λ other has. elim (cases_has x ds a v other has) [ inl first ↦ omega (arith, first.1) | inr behind ↦ is.1 other behind ],
              )
        ]

module _ (h : List Entry) (w : Window) (filters : List (Datom → Bool)) where
  abbrev Selects : Datom → Type 0
  Selects d = IsTrue (is_selected_by filters d)

  has : (a : ℕ) (v : Value) (e : ℕ) → HasIn (facts_seen h w filters) a v e → Has h w Selects a v e
  has a v e is =
      let own = kept (is_selected_by filters) (seen h (without_history w)) is.datom is.member in
      let parts = and_parts (eqb is.datom.a a) (value_eq is.datom.v v) is.says_it in
      record {
        datom = is.datom;
        in_view = record { is_seen = own.member; is_selected = own.passes };
        says =
            and_from (eqb is.datom.e e && eqb is.datom.a a) (value_eq is.datom.v v)
            (and_from (eqb is.datom.e e) (eqb is.datom.a a) (eq-eqb is.datom.e e is.own) parts.0) parts.1;
      }

  has_in : (a : ℕ) (v : Value) (e : ℕ) → Has h w Selects a v e → HasIn (facts_seen h w filters) a v e
  has_in a v e is =
      let whole = and_parts (eqb is.datom.e e && eqb is.datom.a a) (value_eq is.datom.v v) is.says in
      let parts = and_parts (eqb is.datom.e e) (eqb is.datom.a a) whole.0 in
      record {
        datom = is.datom;
        member = keep (is_selected_by filters) (seen h (without_history w)) is.datom is.in_view.is_seen is.in_view.is_selected;
        says_it = and_from (eqb is.datom.a a) (value_eq is.datom.v v) parts.1 whole.1;
        own = eqb-true is.datom.e e parts.0;
      }

  holds_in_view : (a : ℕ) (v : Value) (o : Option ℕ) → IsHolderIn (facts_seen h w filters) a v o → IsHolder h w Selects a v o
  holds_in_view a v None none = λ e is. none e (has_in a v e is)
  holds_in_view a v (Some e) is = (has a v e is.0, λ other given. is.1 other (has_in a v other given))

  pub named_by_tests : (id : Id) → IsNamed h w Selects id (entity_named (facts_seen h w filters) id)
  named_by_tests (number n) = refl
  named_by_tests (ident name) =
      holds_in_view ident_attribute (Keyword name) (holder (facts_seen h w filters) ident_attribute (Keyword name))
      (holder_in (facts_seen h w filters) ident_attribute (Keyword name))
  named_by_tests (lookup a v) = holds_in_view a v (holder (facts_seen h w filters) a v) (holder_in (facts_seen h w filters) a v)
