-- Values: the value that a form is under an attribute of a type.
-- Datomic, Schema (:db/valueType), and EDN, edn-format, "Built-in elements".
use Rattle.std.specs.Prelude.{ℕ, ◌==◌, if◌then◌else◌, Option, Some, None}
use Rattle.std.specs.Option.{option_map_or}
use Rattle.edn_model.specs.Form as edn
use Rattle.edn_model.specs.Form.{Form}
use Rattle.fb_values.specs.declared.facts.Value.{Value}
use Rattle.fb_values.specs.declared.facts.Value.TheVariants.{Keyword, Str, Bool as Boolean, Long}
use Rattle.fb_values.specs.declared.facts.Value.TheVariants.{Instant, Uuid, Symbol, Uri}
use Rattle.fb_numbers.specs.Numbers.{type_uri}
use Rattle.fb_model.specs.Types.{is_of_type}

-- the value that the form stands for under the type, of whatever length: a string is a string or a
-- uri; an entity is no plain value
abbrev pub read_as : ℕ → Form → Option Value
read_as kind (edn.keyword k) = Some (Keyword k)
read_as kind (edn.string s) = if kind == type_uri then Some (Uri s) else Some (Str s)
read_as kind (edn.boolean b) = Some (Boolean b)
read_as kind (edn.integer z) = Some (Long z)
read_as kind (edn.instant z) = Some (Instant z)
read_as kind (edn.uuid n) = Some (Uuid n)
read_as kind (edn.symbol s) = Some (Symbol s)
read_as kind f = None

abbrev pub if_of_type : ℕ → Value → Option Value
if_of_type kind v = if is_of_type kind v then Some v else None

-- the value of the type, where the form is one
abbrev pub value_in : ℕ → Form → Option Value
value_in kind f = option_map_or (if_of_type kind) (read_as kind f) None
