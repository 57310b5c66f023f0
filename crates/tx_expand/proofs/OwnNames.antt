-- In a lawful history an attribute that a keyword names has that keyword as its name.
use Rattle.std.proofs.Common.{◌≡◌, ℕ, Bool, true, List, [], ◌∷◌, ◌&&◌, ◌||◌, refl, ap, sym, ◌∙◌}
use Rattle.std.specs.Prelude.{Option, Some, None, option_and_then, option_map, unwrap_or, nat_eq, IsTrue}
use Rattle.std.specs.List.{list_any}
use Rattle.std.proofs.Common.{arith}
use Rattle.std.proofs.lemmas.Bool.Decides.{nat_tests}
use Rattle.fb_values.specs.declared.facts.Datom.{Datom}
use Rattle.fb_values.specs.declared.facts.Entry.{Entry}
use Rattle.fb_values.specs.declared.facts.Value.{Value}
use Rattle.fb_values.specs.declared.facts.Value.TheVariants.{Keyword, Str, Bool as Boolean, Long, Ref, Instant, Uuid, Symbol, Uri}
use Rattle.fb_numbers.specs.Numbers.{ident}
use Rattle.fb_model.specs.Facts.{value_of, values_of, value_eq, is_of, holds}
use Rattle.fb_model.specs.Schema.{Attribute, attribute_of, attribute_from, keyword_of, keyword_in, entity_of, truth_of, named}
use Rattle.fb_numbers.specs.Numbers.{value_type, cardinality, unique, is_component, index}
use Rattle.fb_model.proofs.KnownFacts.{holder-HasFact}
use Rattle.fb_model.proofs.Members.{any_member}
use Rattle.fb_model.proofs.Invariants.{values_of-is_of}
use Rattle.fb_model.proofs.Triples.{value_eq-refl}
use Rattle.tx_expand.specs.Known.{HaveOwnNames}
use Rattle.tx_expand.proofs.OneMore.{no_some}

some_same : {A : Type 0} (x y : A) → Some x ≡ Some y → x ≡ y
some_same x y same = ap (λ o. unwrap_or o x) same

name_from : (e : ℕ) (name : Option (List ℕ)) (kind count uniqueness : Option ℕ) (component indexed : Bool) (attribute : Attribute)
    → attribute_from e name kind count uniqueness component indexed ≡ Some attribute → name ≡ Some attribute.name
name_from e (Some name) (Some kind) (Some count) uniqueness component indexed attribute is = ap (option_map (λ (a : Attribute). a.name)) is
name_from e None kind count uniqueness component indexed attribute is = no_some (sym is)
name_from e (Some name) None count uniqueness component indexed attribute is = no_some (sym is)
name_from e (Some name) (Some kind) None uniqueness component indexed attribute is = no_some (sym is)

keyword_is : (v : Option Value) (name : List ℕ) → option_and_then keyword_in v ≡ Some name → v ≡ Some (Keyword name)
keyword_is (Some (Keyword text)) name is = ap (λ o. Some (Keyword (unwrap_or o text))) is
keyword_is (Some (Str text)) name is = no_some (sym is)
keyword_is (Some (Boolean b)) name is = no_some (sym is)
keyword_is (Some (Long z)) name is = no_some (sym is)
keyword_is (Some (Ref e)) name is = no_some (sym is)
keyword_is (Some (Instant z)) name is = no_some (sym is)
keyword_is (Some (Uuid n)) name is = no_some (sym is)
keyword_is (Some (Symbol text)) name is = no_some (sym is)
keyword_is (Some (Uri text)) name is = no_some (sym is)
keyword_is None name is = no_some (sym is)

-- the first of the values
abbrev first_value : List Value → Option Value
first_value [] = None
first_value (v ∷ vs) = Some v

first_is_one : (vs : List Value) (v : Value) → first_value vs ≡ Some v → list_any (λ x. value_eq x v) vs ≡ true
first_is_one [] v is = no_some (sym is)
first_is_one (w ∷ vs) v is =
    ap (λ x. value_eq x v || list_any (λ y. value_eq y v) vs) (some_same w v is)
    ∙ ap (λ b. b || list_any (λ y. value_eq y v) vs) (value_eq-refl v)

text_in : Value → List ℕ → List ℕ
text_in (Keyword text) other = text
text_in v other = other

keywords_same : (k name : List ℕ) → Keyword k ≡ Keyword name → k ≡ name
unfolding text_in
keywords_same k name same = ap (λ v. text_in v k) same

nat_eq-refl : (n : ℕ) → nat_eq n n ≡ true
nat_eq-refl n = grind (arith, nat_tests)

module _ (h : List Entry) (ds : List Datom)
    (visited : (e : ℕ) (v : Value) → list_any (is_of e ident v) ds ≡ true → IsTrue (holds h e ident v))
    (one_value : (e : ℕ) (v w : Value) → IsTrue (holds h e ident v) → IsTrue (holds h e ident w) → v ≡ w)
  where
    by_holder : (k : List ℕ) (attribute : Attribute) (found : Option ℕ) → named ds k ≡ found
        → option_and_then (attribute_of ds) found ≡ Some attribute → attribute.name ≡ k
    by_holder k attribute None is none = no_some (sym none)
    by_holder k attribute (Some e) is described =
        let has = holder-HasFact ds e ident (Keyword k) is in
        let by_name : keyword_of ds e ident ≡ Some attribute.name =
        name_from e (keyword_of ds e ident) (entity_of ds e value_type) (entity_of ds e cardinality) (entity_of ds e unique)
        (truth_of ds e is_component) (truth_of ds e index) attribute described in
        let valued : value_of ds e ident ≡ Some (Keyword attribute.name) = keyword_is (value_of ds e ident) attribute.name by_name in
        let of_name : list_any (is_of e ident (Keyword attribute.name)) ds ≡ true =
        sym (values_of-is_of ds e ident (Keyword attribute.name)) ∙ first_is_one (values_of ds e ident) (Keyword attribute.name) valued in
        let of_k : list_any (is_of e ident (Keyword k)) ds ≡ true =
        any_member (is_of e ident (Keyword k)) ds has.datom has.member
        (ap (λ n. (nat_eq n e && nat_eq has.datom.a ident) && value_eq has.datom.v (Keyword k)) has.e_is
        ∙ ap (λ b. (b && nat_eq has.datom.a ident) && value_eq has.datom.v (Keyword k)) (nat_eq-refl e)
        ∙ ap (λ b. (true && b) && value_eq has.datom.v (Keyword k)) has.a_is
        ∙ has.v_is) in
        keywords_same attribute.name k
        (one_value e (Keyword attribute.name) (Keyword k) (visited e (Keyword attribute.name) of_name) (visited e (Keyword k) of_k))

    pub own_names : HaveOwnNames ds
    own_names k attribute is = by_holder k attribute (named ds k) refl is
