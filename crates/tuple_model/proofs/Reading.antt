-- What is read from forms: bounds of a composite, and composites.
use Rattle.std.proofs.Common.{◌≡◌, ℕ, Bool, true, false, cond, List, [], ◌∷◌, refl, sym, ◌∙◌, ap, option_map}
use Rattle.std.proofs.Common.{Option, Some, None}
use Rattle.std.specs.Prelude.{option_and_then}
use Rattle.std.specs.Option.{option_map_or}
use Rattle.std.proofs.lemmas.Bool.{true≢false, and_from}
use Rattle.edn_model.specs.Form as edn
use Rattle.edn_model.specs.Form.{Form, items}
use Rattle.fb_values.specs.declared.facts.Datom.{Datom}
use Rattle.fb_values.specs.declared.facts.Value.{Value}
use Rattle.fb_values.specs.declared.facts.Value.TheVariants.{Keyword, Str, Bool as Boolean, Long, Ref, Instant, Uuid, Symbol, Uri}
use Rattle.fb_model.specs.Schema.{Attribute, attribute_of}
use Rattle.fb_model.specs.Types.{is_of_type}
use Rattle.tx_model.specs.Values.{if_of_type}
use Rattle.edn_values.specs.Values.{value_of_form}
use Rattle.tuple_model.specs.Composite.{is_composite, attributes_named}
use Rattle.tuple_model.specs.Tuples.{Tuple, is_member_of_type, is_bound}
use Rattle.tuple_model.specs.Given.{names_in, if_composite, composite_in, kinds_of, member_in, members_in, bound_in}

-- ---- options

none_is : {A : Type 0} (P : Type 0) (a : A) → None ≡ Some a → P
none_is P a is = absurd (cc)

same_some : {A : Type 0} (a b : A) → Some a ≡ Some b → a ≡ b
same_some a b is = cc

made : {A B : Type 0} (f : A → B) (o : Option A) (b : B) → option_map f o ≡ Some b → (a : A) × (o ≡ Some a) × (f a ≡ b)
made f None b is = none_is _ b is
made f (Some a) b is = (a, refl, same_some (f a) b is)

chained : {A B : Type 0} (f : A → Option B) (o : Option A) (b : B) → option_and_then f o ≡ Some b → (a : A) × (o ≡ Some a) × (f a ≡ Some b)
chained f None b is = none_is _ b is
chained f (Some a) b is = (a, refl, is)

where_passes : {A : Type 0} (b : Bool) (x y : A) → cond b (Some x) None ≡ Some y → (b ≡ true) × (x ≡ y)
where_passes true x y is = (refl, same_some x y is)
where_passes false x y is = none_is _ y is

-- ---- bounds

typed_value : (kind : ℕ) (o : Option Value) (m : Option Value) → option_map Some (option_and_then (if_of_type kind) o) ≡ Some m
    → option_map_or (is_of_type kind) m true ≡ true
typed_value kind o m is =
    let outer = made Some (option_and_then (if_of_type kind) o) m is in
    let inner = chained (if_of_type kind) o outer.0 outer.1 in
    let passes = where_passes (is_of_type kind inner.0) inner.0 outer.0 inner.2 in
    ap (λ n. option_map_or (is_of_type kind) n true) (sym outer.2 ∙ ap Some (sym passes.1)) ∙ passes.0

typed : (kind : ℕ) (f : Form) (m : Option Value) → member_in kind f ≡ Some m → option_map_or (is_of_type kind) m true ≡ true
typed kind edn.nil m is = ap (λ n. option_map_or (is_of_type kind) n true) (sym (same_some None m is))
typed kind f m is = typed_value kind (value_of_form kind f) m is

of_no_kind : (v : Value) → is_of_type 0 v ≡ false
of_no_kind (Keyword text) = refl
of_no_kind (Str text) = refl
of_no_kind (Boolean b) = refl
of_no_kind (Long n) = refl
of_no_kind (Ref e) = refl
of_no_kind (Instant n) = refl
of_no_kind (Uuid n) = refl
of_no_kind (Symbol text) = refl
of_no_kind (Uri text) = refl

member_typed : (facts : List Datom) (a : ℕ) (m : Option Value)
    → option_map_or (is_of_type (option_map_or (λ attribute. attribute.kind) (attribute_of facts a) 0)) m true ≡ true
    → is_member_of_type facts a m ≡ true
member_typed facts a None is = refl
member_typed facts a (Some v) is = go (attribute_of facts a) is
  where
    go : (found : Option Attribute) → is_of_type (option_map_or (λ attribute. attribute.kind) found 0) v ≡ true
        → option_map_or (λ attribute. is_of_type attribute.kind v) found false ≡ true
    go None is = absurd (true≢false (sym is ∙ of_no_kind v))
    go (Some attribute) is = is

pub read_is_bound : (facts : List Datom) (attrs : List ℕ) (fs : List Form) (tuple : Tuple)
    → members_in (kinds_of facts attrs) fs ≡ Some tuple → is_bound facts attrs tuple ≡ true
read_is_bound facts [] [] tuple is = ap (is_bound facts []) (sym (same_some [] tuple is))
read_is_bound facts [] (f ∷ fs) tuple is = none_is _ tuple is
read_is_bound facts (a ∷ attrs) [] tuple is = none_is _ tuple is
read_is_bound facts (a ∷ attrs) (f ∷ fs) tuple is =
    let kind = option_map_or (λ attribute. attribute.kind) (attribute_of facts a) 0 in
    let first = chained (λ m. option_map (λ ms. m ∷ ms) (members_in (kinds_of facts attrs) fs)) (member_in kind f) tuple is in
    let rest = made (λ ms. first.0 ∷ ms) (members_in (kinds_of facts attrs) fs) tuple first.2 in
    ap (is_bound facts (a ∷ attrs)) (sym rest.2)
    ∙ and_from _ _ (member_typed facts a first.0 (typed kind f first.0 first.1)) (read_is_bound facts attrs fs rest.0 rest.1)

pub bound_is_bound : (facts : List Datom) (attrs : List ℕ) (f : Form) (tuple : Tuple)
    → bound_in (kinds_of facts attrs) f ≡ Some (Some tuple) → is_bound facts attrs tuple ≡ true
bound_is_bound facts attrs edn.nil tuple is = none_is _ tuple (same_some None (Some tuple) is)
bound_is_bound facts attrs (edn.vector fs) tuple is =
    let from = made Some (members_in (kinds_of facts attrs) (items fs)) (Some tuple) is in
    read_is_bound facts attrs (items fs) tuple (from.1 ∙ from.2)
bound_is_bound facts attrs f tuple is = none_is _ (Some tuple) is

-- ---- composites

pub given_is_composite : (facts : List Datom) (f : Form) (attrs : List ℕ) → composite_in facts f ≡ Some attrs
    → is_composite facts attrs ≡ true
given_is_composite facts (edn.vector fs) attrs is =
    let from = chained (if_composite facts) (option_and_then (attributes_named facts) (names_in (items fs))) attrs is in
    let passes = where_passes (is_composite facts from.0) from.0 attrs from.2 in
    ap (is_composite facts) (sym passes.1) ∙ passes.0
given_is_composite facts f attrs is = none_is _ attrs is
