-- What is read of a composite and of a bound, place by place.
use Rattle.std.proofs.Common.{◌≡◌, ℕ, ◌+◌, ◌<◌, ◌≤◌, Bool, true, false, cond, not, ◌&&◌, List, [], ◌∷◌, ◌++◌, length, get_or, take, drop}
use Rattle.std.proofs.Common.{refl, sym, ap, ◌∙◌, arith, Option, Some, None, option_map}
use Rattle.std.specs.Prelude.{option_and_then, nat_le, ◌==◌}
use Rattle.std.specs.Option.{option_map_or}
use Rattle.std.proofs.lemmas.Bool.{le-leb}
use Rattle.std.proofs.lemmas.List.{take_more, drop_more, length-take}
use Rattle.edn_model.specs.Form as edn
use Rattle.edn_model.specs.Form.{Form, items}
use Rattle.edn_form.specs.declared.form.Edn.{Edn, Vector}
use Rattle.edn_form.specs.declared.form.Items.{Items}
use Rattle.edn_form.specs.View.{form_of, forms_of, members}
use Rattle.edn_form.proofs.Views.{form_of-Vector}
use Rattle.fb_values.specs.declared.facts.Datom.{Datom}
use Rattle.fb_values.specs.declared.facts.Value.{Value}
use Rattle.fb_numbers.specs.Numbers.{type_ref}
use Rattle.fb_model.specs.Schema.{Attribute, attribute_of, attribute_named as model_named, is_one}
use Rattle.fb_model.specs.Types.{is_of_type}
use Rattle.tx_model.specs.Values.{if_of_type, read_as, value_in}
use Rattle.edn_values.specs.Values.{value_of_form, entity_of}
use Rattle.tuple_model.specs.Composite.{is_among, first_unfit, bad_place, attributes_named}
use Rattle.tuple_model.specs.Tuples.{Tuple}
use Rattle.tuple_model.specs.Given.{names_in, if_composite, composite_in, kinds_of, member_in, members_in, bound_in}
use Rattle.fb_tuples.proofs.Firsts.{not_same}
use Rattle.fb_tuples.specs.Reading.{id_named, ids_in}

-- ---- the first unfit attribute

abbrev pub is_fit : List Datom → List ℕ → ℕ → Bool
is_fit facts before a = is_one facts a && not (is_among before a)

module _ (facts : List Datom) (xs : List ℕ) (i a : ℕ) (within : i < length xs) (at : a ≡ get_or xs i a) where
  from_here : first_unfit facts (take i xs) (drop i xs)
      ≡ cond (is_fit facts (take i xs) a) (first_unfit facts (take i xs ++ a ∷ []) (drop (i + 1) xs)) (Some (length (take i xs)))
  from_here = ap (first_unfit facts (take i xs)) (drop_more xs i a within ∙ ap (λ x. x ∷ drop (i + 1) xs) (sym at))

  pub unfit_here : is_fit facts (take i xs) a ≡ false → first_unfit facts (take i xs) (drop i xs) ≡ Some i
  unfit_here unfit =
      from_here
      ∙ ap (λ b. cond b (first_unfit facts (take i xs ++ a ∷ []) (drop (i + 1) xs)) (Some (length (take i xs)))) unfit
      ∙ ap Some (length-take i xs ∙ omega (arith, within))

  pub fit_here : is_fit facts (take i xs) a ≡ true
      → first_unfit facts (take i xs) (drop i xs) ≡ first_unfit facts (take (i + 1) xs) (drop (i + 1) xs)
  fit_here fit =
      from_here
      ∙ ap (λ b. cond b (first_unfit facts (take i xs ++ a ∷ []) (drop (i + 1) xs)) (Some (length (take i xs)))) fit
      ∙ ap (λ before. first_unfit facts before (drop (i + 1) xs)) (ap (λ x. take i xs ++ x ∷ []) at ∙ sym (take_more xs i a within))

-- ---- by a schema that says of attributes what the facts say

module _ (schema facts : List Datom) (same : (e : ℕ) → attribute_of schema e ≡ attribute_of facts e) where
  unfit-same : (before attrs : List ℕ) → first_unfit schema before attrs ≡ first_unfit facts before attrs
  unfit-same before [] = refl
  unfit-same before (a ∷ attrs) =
      let one : is_one schema a ≡ is_one facts a = ap (λ o. option_map_or (λ attribute. not attribute.many) o false) (same a) in
      λ i. cond (one i && not (is_among before a)) (unfit-same (before ++ a ∷ []) attrs i) (Some (length before))

  pub bad_place-same : (attrs : List ℕ) → bad_place schema attrs ≡ bad_place facts attrs
  bad_place-same attrs = ap (λ o. cond (nat_le 2 (length attrs) && nat_le (length attrs) 8) o (Some 0)) (unfit-same [] attrs)

  pub kinds-same : (attrs : List ℕ) → kinds_of schema attrs ≡ kinds_of facts attrs
  kinds-same [] = refl
  kinds-same (a ∷ attrs) = λ i. option_map_or (λ attribute. attribute.kind) (same a i) 0 ∷ kinds-same attrs i

pub many_enough : (facts : List Datom) (attrs : List ℕ) → 2 ≤ length attrs → length attrs ≤ 8
    → first_unfit facts [] attrs ≡ bad_place facts attrs
many_enough facts attrs low high = rw (le-leb 2 (length attrs) low, le-leb (length attrs) 8 high) refl

module _ (schema facts : List Datom) (same : (name : List ℕ) → model_named schema name ≡ model_named facts name) where
  id-same : (f : Form) → id_named schema f ≡ id_named facts f
  id-same (edn.keyword name) = ap (option_map (λ attribute. attribute.id)) (same name)
  id-same f = refl

  ids-same : (fs : List Form) → ids_in schema fs ≡ ids_in facts fs
  ids-same [] = refl
  ids-same (f ∷ fs) = λ i. option_and_then (λ id. option_map (λ ids. id ∷ ids) (ids-same fs i)) (id-same f i)

-- ---- the names, and then the attributes

items-forms : (l : List Form) → items (edn.forms l) ≡ l
items-forms [] = refl
items-forms (f ∷ l) = ap (λ rest. f ∷ rest) (items-forms l)

module _ (facts : List Datom) where
  abbrev named_then : Option (List ℕ) → Option Attribute → Option (List ℕ)
  named_then rest found = option_and_then (λ id. option_map (λ ids. id ∷ ids) rest) (option_map (λ attribute. attribute.id) found)

  ids_in-names : (fs : List Form) → ids_in facts fs ≡ option_and_then (attributes_named facts) (names_in fs)
  ids_in-names [] = refl
  ids_in-names (edn.keyword name ∷ fs) = go (names_in fs) (ids_in-names fs)
    where
      none : (found : Option Attribute) → named_then None found ≡ None
      none None = refl
      none (Some attribute) = refl

      some : (rest : Option (List ℕ)) (found : Option Attribute)
          → named_then rest found ≡ option_and_then (λ attribute. option_map (λ ids. attribute.id ∷ ids) rest) found
      some rest None = refl
      some rest (Some attribute) = refl

      go : (names : Option (List (List ℕ))) → ids_in facts fs ≡ option_and_then (attributes_named facts) names
          → named_then (ids_in facts fs) (model_named facts name)
          ≡ option_and_then (attributes_named facts) (option_map (λ ns. name ∷ ns) names)
      go None is = ap (λ rest. named_then rest (model_named facts name)) is ∙ none (model_named facts name)
      go (Some ns) is = ap (λ rest. named_then rest (model_named facts name)) is ∙ some (attributes_named facts ns) (model_named facts name)
  ids_in-names (f ∷ fs) = refl

  composite_from : (fs : List Form) → composite_in facts (edn.vector (edn.forms fs)) ≡ option_and_then (if_composite facts) (ids_in facts fs)
  composite_from fs =
      ap (λ l. option_and_then (if_composite facts) (option_and_then (attributes_named facts) (names_in l))) (items-forms fs)
      ∙ ap (option_and_then (if_composite facts)) (sym (ids_in-names fs))

-- what the names give by the schema is read by the facts
pub composite_read : (schema facts : List Datom) → ((name : List ℕ) → model_named schema name ≡ model_named facts name)
    → (fs : List Form) (read : Option (List ℕ)) → read ≡ ids_in schema fs
    → option_and_then (if_composite facts) read ≡ composite_in facts (edn.vector (edn.forms fs))
composite_read schema facts same fs read is =
    ap (option_and_then (if_composite facts)) (is ∙ ids-same schema facts same fs) ∙ sym (composite_from facts fs)

pub bound_read : (schema facts : List Datom) → ((e : ℕ) → attribute_of schema e ≡ attribute_of facts e) → (attrs : List ℕ) (fs : List Form)
    (read : Option Tuple) → read ≡ members_in (kinds_of schema attrs) fs
    → option_map Some read ≡ bound_in (kinds_of facts attrs) (edn.vector (edn.forms fs))
bound_read schema facts same attrs fs read is =
    ap (option_map Some) (is ∙ ap (λ kinds. members_in kinds fs) (kinds-same schema facts same attrs))
    ∙ ap (λ l. option_map Some (members_in (kinds_of facts attrs) l)) (sym (items-forms fs))

-- a list whose first bad place is none is a composite
pub no_bad_place : (facts : List Datom) (attrs : List ℕ) → bad_place facts attrs ≡ None → if_composite facts attrs ≡ Some attrs
no_bad_place facts attrs none = ap (λ o. cond (option_map_or (λ place. false) o true) (Some attrs) None) none

pub some_bad_place : (facts : List Datom) (attrs : List ℕ) (place : ℕ) → bad_place facts attrs ≡ Some place → if_composite facts attrs ≡ None
some_bad_place facts attrs place some = ap (λ o. cond (option_map_or (λ place. false) o true) (Some attrs) None) some

-- ---- members of a bound

pub other_length : (kinds : List ℕ) (fs : List Form) → (length fs ≡ length kinds → ⊥) → None ≡ members_in kinds fs
other_length [] [] apart = absurd (apart refl)
other_length [] (f ∷ fs) apart = refl
other_length (kind ∷ kinds) [] apart = refl
other_length (kind ∷ kinds) (f ∷ fs) apart =
    sym (none (member_in kind f))
    ∙ ap (λ rest. option_and_then (λ member. option_map (λ members. member ∷ members) rest) (member_in kind f))
    (other_length kinds fs (λ same. apart (omega (arith, same))))
  where
    none : (o : Option (Option Value)) → option_and_then (λ member. option_map (λ members. member ∷ members) None) o ≡ None
    none None = refl
    none (Some member) = refl

-- a plain value of the type is of the type
again : (kind : ℕ) (o : Option Value) → option_and_then (if_of_type kind) (option_map_or (if_of_type kind) o None) ≡ option_map_or (if_of_type kind) o None
again kind None = refl
again kind (Some v) = go (is_of_type kind v) refl
  where
    go : (b : Bool) → is_of_type kind v ≡ b → option_and_then (if_of_type kind) (cond b (Some v) None) ≡ cond b (Some v) None
    go true is = ap (λ b. cond b (Some v) None) is
    go false is = refl

pub plain_value : (kind : ℕ) (f : Form) → (kind ≡ type_ref → ⊥) → value_of_form kind f ≡ option_and_then (if_of_type kind) (value_of_form kind f)
plain_value kind (edn.integer z) other =
    ap (λ b. cond b (entity_of z) (value_in kind (edn.integer z))) (no_ref kind other)
    ∙ sym (again kind (read_as kind (edn.integer z)))
    ∙ ap (λ b. option_and_then (if_of_type kind) (cond b (entity_of z) (value_in kind (edn.integer z)))) (sym (no_ref kind other))
  where
    no_ref : (n : ℕ) → (n ≡ type_ref → ⊥) → (n == type_ref) ≡ false
    no_ref n apart = not_same n type_ref apart
plain_value kind f other = sym (again kind (read_as kind f))

-- ---- as the program has forms

pub composite_given : (schema facts : List Datom) → ((name : List ℕ) → model_named schema name ≡ model_named facts name)
    → (given : Edn) (i : Items) → given ≡ Vector i → (es : List Edn) → es ≡ members i
    → (read : Option (List ℕ)) → read ≡ ids_in schema (forms_of es) → option_and_then (if_composite facts) read ≡ composite_in facts (form_of given)
composite_given schema facts same given i vector es all read is =
    composite_read schema facts same (forms_of es) read is
    ∙ sym (ap (λ f. composite_in facts (form_of f)) vector ∙ ap (composite_in facts) (form_of-Vector i)
    ∙ ap (λ l. composite_in facts (edn.vector (edn.forms (forms_of l)))) (sym all))

pub bound_given : (schema facts : List Datom) → ((e : ℕ) → attribute_of schema e ≡ attribute_of facts e) → (attrs : List ℕ)
    (given : Edn) (i : Items) → given ≡ Vector i → (es : List Edn) → es ≡ members i
    → (read : Option Tuple) → read ≡ members_in (kinds_of schema attrs) (forms_of es)
    → option_map Some read ≡ bound_in (kinds_of facts attrs) (form_of given)
bound_given schema facts same attrs given i vector es all read is =
    bound_read schema facts same attrs (forms_of es) read is
    ∙ sym (ap (λ f. bound_in (kinds_of facts attrs) (form_of f)) vector ∙ ap (bound_in (kinds_of facts attrs)) (form_of-Vector i)
    ∙ ap (λ l. bound_in (kinds_of facts attrs) (edn.vector (edn.forms (forms_of l)))) (sym all))
