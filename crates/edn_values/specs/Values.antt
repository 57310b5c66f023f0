-- Values and forms: the value that a form is under a type,
-- and the form in which a value is printed.
-- Datomic, Schema (:db/valueType).
-- That an entity may be given and is printed by its number is Transaction Data, Entity Identifiers.
use Rattle.std.specs.Prelude.{ℕ, ℤ, pos, negsuc, Bool, true, ◌==◌, nat_le, if◌then◌else◌, Option}
use Rattle.std.specs.Prelude.{Some, None}
use Rattle.std.specs.Int.{int_min}
use Rattle.edn_model.specs.Form as edn
use Rattle.edn_model.specs.Form.{Form}
use Rattle.fb_values.specs.declared.facts.Value.{Value}
use Rattle.fb_values.specs.declared.facts.Value.TheVariants.{Keyword, Str, Bool as Boolean, Long}
use Rattle.fb_values.specs.declared.facts.Value.TheVariants.{Ref, Instant, Uuid, Symbol, Uri}
use Rattle.fb_numbers.specs.Numbers.{type_ref}
use Rattle.tx_model.specs.Values.{value_in}

-- the greatest integer of 64 bits
abbrev pub greatest_long : ℕ
greatest_long = 9223372036854775807

-- the entity that an integer numbers
abbrev pub entity_of : ℤ → Option Value
entity_of (pos n) = Some (Ref n)
entity_of (negsuc n) = None

-- the value that the form is under the type: an integer may be an entity,
-- and under every other type a form is the plain value that it is in a transaction
abbrev pub value_of_form : ℕ → Form → Option Value
value_of_form kind (edn.integer z) =
    if kind == type_ref then entity_of z else value_in kind (edn.integer z)
value_of_form kind f = value_in kind f

-- the integer of an entity's number; no entity of a history has one above the greatest integer
abbrev pub number_of_entity : ℕ → ℤ
number_of_entity e = int_min (pos e) (pos greatest_long)

-- the form in which the value is printed: an entity by its number, a uri as a string
abbrev pub form_of_value : Value → Form
form_of_value (Keyword text) = edn.keyword text
form_of_value (Str text) = edn.string text
form_of_value (Boolean b) = edn.boolean b
form_of_value (Long z) = edn.integer z
form_of_value (Ref e) = edn.integer (number_of_entity e)
form_of_value (Instant z) = edn.instant z
form_of_value (Uuid n) = edn.uuid n
form_of_value (Symbol text) = edn.symbol text
form_of_value (Uri text) = edn.string text

-- the value's form says all of it: its entity is one that an integer can number
abbrev pub is_printed_whole : Value → Bool
is_printed_whole (Ref e) = nat_le e greatest_long
is_printed_whole v = true
