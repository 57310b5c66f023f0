-- Vectors that are lookup refs, and those that are none; what is wrong with lookup refs one inside the other.
use Rattle.std.proofs.Common.{◌≡◌, ◌≢◌, ℕ, Bool, true, false, not, List, [], ◌∷◌, ◌++◌, length, cond, ◌||◌, refl, ap, sym, ◌∙◌}
use Rattle.std.specs.Prelude.{Option, None, Some, is_some, nat_eq}
use Rattle.edn_model.specs.Form as edn
use Rattle.edn_model.specs.Form.{Form, Forms, no_forms, form, forms}
use Rattle.edn_form.specs.declared.form.Edn.{Edn}
use Rattle.edn_form.specs.View.{form_of, forms_of}
use Rattle.fb_values.specs.declared.facts.Datom.{Datom}
use Rattle.fb_numbers.specs.Numbers.{type_ref}
use Rattle.fb_model.specs.Schema.{Attribute}
use Rattle.tx_model.specs.Asks.{Name, Operand, plain, entity, lookup_in, name_of_part}
use Rattle.tx_model.specs.NameRules.{lookups_from, lookups_in, is_wrong_part, is_wrong_lookup}
use Rattle.tx_model.specs.Values.{value_in}
use Rattle.tx_model.specs.Walk.{has_ref, lookup_or, old_value_part}
use Rattle.tx_expand.specs.declared.faults.NameFaults.{NameFaults}
use Rattle.tx_expand.specs.Faults.{lookups_inside, lookups_faults, lookup_faults, either_name, no_name_faults, names_faults}

pub no_plain_entity : (f : Form) → value_in type_ref f ≡ None
no_plain_entity edn.nil = refl
no_plain_entity (edn.boolean b) = refl
no_plain_entity (edn.integer z) = refl
no_plain_entity (edn.string s) = refl
no_plain_entity (edn.symbol s) = refl
no_plain_entity (edn.keyword k) = refl
no_plain_entity (edn.list fs) = refl
no_plain_entity (edn.vector fs) = refl
no_plain_entity (edn.map ps) = refl
no_plain_entity (edn.set fs) = refl
no_plain_entity (edn.instant z) = refl
no_plain_entity (edn.uuid n) = refl

lookup_of_one : (f : Form) → lookup_in (form f no_forms) ≡ None
lookup_of_one (edn.keyword k) = refl
lookup_of_one f = refl

lookup_of_more : (f g h : Form) (rest : Forms) → lookup_in (form f (form g (form h rest))) ≡ None
lookup_of_more (edn.keyword k) g h rest = refl
lookup_of_more f g h rest = refl

pub lookup_of_others : (xs : List Edn) → length xs ≢ 2 → lookup_in (forms (forms_of xs)) ≡ None
lookup_of_others [] other = refl
lookup_of_others (a ∷ []) other = lookup_of_one (form_of a)
lookup_of_others (a ∷ b ∷ []) other = absurd (other refl)
lookup_of_others (a ∷ b ∷ c ∷ rest) other = lookup_of_more (form_of a) (form_of b) (form_of c) (forms (forms_of rest))

-- the lookup refs of a vector that stands under the attribute
pub lookups_of_vector : (facts : List Datom) (k : List ℕ) (fs : Forms)
    → lookups_from facts k (edn.vector fs) ≡ (k, edn.vector fs) ∷ cond (has_ref facts k) (lookups_inside facts (lookup_in fs)) []
lookups_of_vector facts k fs = by_shape fs
  where
    nothing : (b : Bool) (f : Form) → ◌≡◌ {A = List (List ℕ × Form)} ((k, f) ∷ []) ((k, f) ∷ cond b [] [])
    nothing true f = refl
    nothing false f = refl

    by_shape : (fs : Forms)
        → lookups_from facts k (edn.vector fs) ≡ (k, edn.vector fs) ∷ cond (has_ref facts k) (lookups_inside facts (lookup_in fs)) []
    by_shape no_forms = nothing (has_ref facts k) (edn.vector no_forms)
    by_shape (form (edn.keyword inner) (form value no_forms)) = refl
    by_shape (form (edn.keyword inner) no_forms) = nothing (has_ref facts k) (edn.vector (form (edn.keyword inner) no_forms))
    by_shape (form (edn.keyword inner) (form value (form more rest))) =
        nothing (has_ref facts k) (edn.vector (form (edn.keyword inner) (form value (form more rest))))
    by_shape (form f rest) = nothing (has_ref facts k) (edn.vector (form f rest))

-- a vector under an attribute whose values are entities is wrong where it is no lookup ref
pub wrong_vector : (attribute : Attribute) (fs : Forms) → attribute.kind ≡ type_ref
    → is_wrong_lookup (edn.vector fs) attribute ≡ not (is_some (lookup_in fs))
wrong_vector attribute fs is =
    ap (λ kind. is_wrong_part attribute (old_value_part (nat_eq kind type_ref) (edn.vector fs))) is ∙ by_lookup (lookup_in fs)
  where
    by_lookup : (found : Option (List ℕ × Form)) → is_wrong_part attribute (lookup_or found (plain (edn.vector fs))) ≡ not (is_some found)
    by_lookup None = refl
    by_lookup (Some pair) = ap (λ kind. not (nat_eq kind type_ref)) is

-- ---- what is wrong

or_false : (b : Bool) → (b || false) ≡ b
or_false true = refl
or_false false = refl

three : {a b c : Bool} (x y z : Bool) → a ≡ x → b ≡ y → c ≡ z
    → ◌≡◌ {A = NameFaults} (record { unknown = a; wrong = b; not_unique = c }) (record { unknown = x; wrong = y; not_unique = z })
three {a} {b} {c} x y z p q r =
    ap (λ u. record { unknown = u; wrong = b; not_unique = c }) p ∙ ap (λ w. record { unknown = x; wrong = w; not_unique = c }) q
    ∙ ap (λ n. record { unknown = x; wrong = y; not_unique = n }) r

pub either_none : (x : NameFaults) → either_name x no_name_faults ≡ x
either_none x = three x.unknown x.wrong x.not_unique (or_false x.unknown) (or_false x.wrong) (or_false x.not_unique)

-- what is wrong with a vector under an attribute whose values are entities
pub faults_of_vector : (facts : List Datom) (k : List ℕ) (fs : Forms) → has_ref facts k ≡ true
    → lookups_faults facts (lookups_from facts k (edn.vector fs))
    ≡ either_name (lookup_faults facts (k, edn.vector fs)) (lookups_faults facts (lookups_inside facts (lookup_in fs)))
faults_of_vector facts k fs refers =
    ap (lookups_faults facts) (lookups_of_vector facts k fs)
    ∙ ap (λ b. lookups_faults facts ((k, edn.vector fs) ∷ cond b (lookups_inside facts (lookup_in fs)) [])) refers

-- and with any value under another attribute
alone : (facts : List Datom) (k : List ℕ) (f : Form) → lookups_faults facts ((k, f) ∷ []) ≡ lookup_faults facts (k, f)
alone facts k f = either_none (lookup_faults facts (k, f))

pub faults_of_others : (facts : List Datom) (k : List ℕ) (f : Form) → has_ref facts k ≡ false
    → lookups_faults facts (lookups_from facts k f) ≡ lookup_faults facts (k, f)
faults_of_others facts k (edn.vector fs) other =
    ap (lookups_faults facts) (lookups_of_vector facts k fs)
    ∙ ap (λ b. lookups_faults facts ((k, edn.vector fs) ∷ cond b (lookups_inside facts (lookup_in fs)) [])) other
    ∙ alone facts k (edn.vector fs)
faults_of_others facts k f other = alone facts k f

-- ---- names, one behind the other

pub faults_behind : (facts : List Datom) (part : Operand) (names : List Name)
    → names_faults facts (name_of_part part ++ names) ≡ either_name (names_faults facts (name_of_part part)) (names_faults facts names)
faults_behind facts (plain f) names = refl
faults_behind facts (entity name) names =
    sym (ap (λ found. either_name found (names_faults facts names)) (either_none (lookups_faults facts (lookups_in facts name))))
