-- In a lawful history an attribute is the one that its name names: it is the one holder of its ident.
use Rattle.std.proofs.Common.{◌≡◌, ◌∙◌, ℕ, Bool, true, false, cond, ◌&&◌, List, [], ◌∷◌, map, refl, sym, ap, subst}
use Rattle.std.proofs.Common.{Option, Some, None, eqb, inl, inr}
use Rattle.std.specs.Prelude.{filter, Contains, option_and_then, option_map}
use Rattle.std.specs.List.{list_any}
use Rattle.std.proofs.lemmas.Bool.{and_parts, and_from, eqb-true, eq-eqb}
use Rattle.fb_values.specs.declared.facts.Datom.{Datom}
use Rattle.fb_values.specs.declared.facts.Entry.{Entry}
use Rattle.fb_values.specs.declared.facts.Value.{Value}
use Rattle.fb_values.specs.declared.facts.Value.TheVariants.{Keyword, Str, Bool as Boolean, Long, Ref, Instant, Uuid, Symbol, Uri}
use Rattle.fb_numbers.specs.Numbers.{ident, value_type, cardinality, unique, is_component, index}
use Rattle.fb_model.specs.Facts.{facts as facts_of, value_eq, is_of, holds, Holds, holder, least}
use Rattle.fb_model.specs.Schema.{Attribute, attribute_of, attribute_from, attribute_named, keyword_of, keyword_in, entity_of, truth_of}
use Rattle.fb_model.specs.Schema.{named, is_about}
use Rattle.fb_model.proofs.KnownFacts.{HasFact, holder-HasFact}
use Rattle.fb_model.proofs.Members.{here, kept, any_member, cases_of, none_of}
use Rattle.fb_model.proofs.Triples.{value_eq-refl}

-- ---- what an attribute's name is read from

name_from : (e : ℕ) (name : Option (List ℕ)) (kind count uniqueness : Option ℕ) (component indexed : Bool) (attribute : Attribute)
    → attribute_from e name kind count uniqueness component indexed ≡ Some attribute → name ≡ Some attribute.name
name_from e None kind count uniqueness component indexed attribute is = absurd (cc)
name_from e (Some name) None count uniqueness component indexed attribute is = absurd (cc)
name_from e (Some name) (Some kind) None uniqueness component indexed attribute is = absurd (cc)
name_from e (Some name) (Some kind) (Some count) uniqueness component indexed attribute is =
    ap (option_map (λ (a : Attribute). a.name)) is

keyword_is : (v : Value) (name : List ℕ) → keyword_in v ≡ Some name → v ≡ Keyword name
keyword_is (Keyword text) name is = cc
keyword_is (Str text) name is = absurd (cc)
keyword_is (Boolean b) name is = absurd (cc)
keyword_is (Long z) name is = absurd (cc)
keyword_is (Ref e) name is = absurd (cc)
keyword_is (Instant z) name is = absurd (cc)
keyword_is (Uuid n) name is = absurd (cc)
keyword_is (Symbol text) name is = absurd (cc)
keyword_is (Uri text) name is = absurd (cc)

-- the first of the values
abbrev first_value : List Value → Option Value
first_value [] = None
first_value (v ∷ vs) = Some v

name_fact : (ds : List Datom) (e : ℕ) (name : List ℕ) → keyword_of ds e ident ≡ Some name → HasFact ds e ident (Keyword name)
name_fact ds e name is = go (filter (is_about e ident) ds) refl is
  where
    go : (found : List Datom) → filter (is_about e ident) ds ≡ found
        → option_and_then keyword_in (first_value (map (λ (d : Datom). d.v) found)) ≡ Some name → HasFact ds e ident (Keyword name)
    go [] none fails = absurd (cc)
    go (d ∷ rest) from told =
        let own = kept (is_about e ident) ds d (subst (λ (l : List Datom). Contains l d) (sym from) (here d rest)) in
        let about = and_parts (eqb d.e e) (eqb d.a ident) own.passes in
        record {
          datom = d;
          member = own.member;
          e_is = eqb-true d.e e about.0;
          a_is = about.1;
          v_is = subst (λ (v : Value). value_eq v (Keyword name) ≡ true) (sym (keyword_is d.v name told)) (value_eq-refl (Keyword name));
        }

-- ---- what a fact says has a holder

least_is : (e : ℕ) (o : Option ℕ) → least e o ≡ None → ⊥
least_is e None is = absurd (cc)
least_is e (Some other) is = absurd (cc)

has_holder : (ds : List Datom) (d : Datom) (a : ℕ) (v : Value) → Contains ds d → (eqb d.a a && value_eq d.v v) ≡ true → holder ds a v ≡ None
    → ⊥
has_holder [] d a v member says none = none_of d member
has_holder (x ∷ ds) d a v member says none =
    elim (cases_of x d ds member) [
      | inl same ↦ here_is (subst (λ (y : Datom). (eqb y.a a && value_eq y.v v) ≡ true) (sym same) says)
      | inr later ↦ has_holder ds d a v later says (behind (eqb x.a a && value_eq x.v v) none)
    ]
  where
    here_is : (eqb x.a a && value_eq x.v v) ≡ true → ⊥
    here_is test =
        least_is x.e (holder ds a v) (subst (λ b. cond b (least x.e (holder ds a v)) (holder ds a v) ≡ None) test none)

    behind : (b : Bool) → cond b (least x.e (holder ds a v)) (holder ds a v) ≡ None → holder ds a v ≡ None
    behind true is = absurd (least_is x.e (holder ds a v) is)
    behind false is = is

-- ---- the one holder

module _ (h : List Entry) (holds_is : (e : ℕ) (v : Value) → holds h e ident v ≡ list_any (is_of e ident v) (facts_of h))
    (one_holder : (e f : ℕ) (v : Value) → Holds h e ident v → Holds h f ident v → e ≡ f) where
  fact_holds : (e : ℕ) (v : Value) → HasFact (facts_of h) e ident v → Holds h e ident v
  fact_holds e v has =
      holds_is e v
      ∙ any_member (is_of e ident v) (facts_of h) has.datom has.member
      (and_from (eqb has.datom.e e && eqb has.datom.a ident) (value_eq has.datom.v v)
      (and_from (eqb has.datom.e e) (eqb has.datom.a ident) (eq-eqb has.datom.e e has.e_is) has.a_is) has.v_is)

  pub own_names : (attribute : Attribute) → attribute_of (facts_of h) attribute.id ≡ Some attribute
      → attribute_named (facts_of h) attribute.name ≡ Some attribute
  own_names attribute is = go (named (facts_of h) attribute.name) refl
    where
      e : ℕ
      e = attribute.id

      v : Value
      v = Keyword attribute.name

      has : HasFact (facts_of h) e ident v
      has =
          name_fact (facts_of h) e attribute.name
          (name_from e (keyword_of (facts_of h) e ident) (entity_of (facts_of h) e value_type) (entity_of (facts_of h) e cardinality)
          (entity_of (facts_of h) e unique) (truth_of (facts_of h) e is_component) (truth_of (facts_of h) e index) attribute is)

      go : (found : Option ℕ) → named (facts_of h) attribute.name ≡ found → option_and_then (attribute_of (facts_of h)) found ≡ Some attribute
      go None none =
          absurd (has_holder (facts_of h) has.datom ident v has.member
          (and_from (eqb has.datom.a ident) (value_eq has.datom.v v) has.a_is has.v_is) none)
      go (Some f) there =
          let same : f ≡ e =
          one_holder f e v (fact_holds f v (holder-HasFact (facts_of h) f ident v there)) (fact_holds e v has) in
          ap (attribute_of (facts_of h)) same ∙ is
