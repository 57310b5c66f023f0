-- Types of values: which value is of which type, and how long texts may be.
-- Datomic, Schema (:db/valueType). The limits on texts are this project's own choice.
use Rattle.std.specs.Prelude.{ℕ, Bool, true, ◌&&◌, nat_eq, nat_le, length}
use Rattle.fb_values.specs.declared.facts.Value.{Value}
use Rattle.fb_values.specs.declared.facts.Value.TheVariants.{Keyword, Str, Bool as Boolean, Long}
use Rattle.fb_values.specs.declared.facts.Value.TheVariants.{Ref, Instant, Uuid, Symbol, Uri}
use Rattle.fb_numbers.specs.Numbers.{type_keyword, type_string, type_boolean, type_long, type_ref}
use Rattle.fb_numbers.specs.Numbers.{type_instant, type_uuid, type_symbol, type_uri, is_instant}
use Rattle.fb_numbers.specs.Numbers.{is_long, is_reference, is_uuid}
use Rattle.fb_numbers.specs.declared.limits.TheConstants.{LONGEST_NAME, LONGEST_STRING}
use Rattle.fb_model.specs.Utf8.{is_utf8_text}
use Rattle.fb_model.specs.Words.{is_keyword_text, is_symbol_text, is_uri_text}

-- the entity of the value's type
abbrev pub type_of : Value → ℕ
type_of (Keyword text) = type_keyword
type_of (Str text) = type_string
type_of (Boolean b) = type_boolean
type_of (Long n) = type_long
type_of (Ref e) = type_ref
type_of (Instant n) = type_instant
type_of (Uuid n) = type_uuid
type_of (Symbol text) = type_symbol
type_of (Uri text) = type_uri

-- a number lies in its range, and a text is in UTF-8;
-- a keyword and a symbol have texts of their own kind besides, and a uri has visible
-- ASCII characters, which are UTF-8 already
abbrev pub is_well_formed : Value → Bool
is_well_formed (Keyword text) = is_utf8_text text && is_keyword_text text
is_well_formed (Str text) = is_utf8_text text
is_well_formed (Boolean b) = true
is_well_formed (Long n) = is_long n
is_well_formed (Ref e) = is_reference e
is_well_formed (Instant n) = is_instant n
is_well_formed (Uuid n) = is_uuid n
is_well_formed (Symbol text) = is_utf8_text text && is_symbol_text text
is_well_formed (Uri text) = is_uri_text text

abbrev pub is_short_enough : Value → Bool
is_short_enough (Keyword text) = nat_le (length text) LONGEST_NAME
is_short_enough (Str text) = nat_le (length text) LONGEST_STRING
is_short_enough (Symbol text) = nat_le (length text) LONGEST_NAME
is_short_enough (Uri text) = nat_le (length text) LONGEST_NAME
is_short_enough v = true

-- an attribute of the type may have the value
abbrev pub is_of_type : ℕ → Value → Bool
is_of_type kind v = nat_eq (type_of v) kind && is_well_formed v && is_short_enough v
