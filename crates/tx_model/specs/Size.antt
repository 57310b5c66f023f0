-- The bytes of an entry on the log. This project's own choice.
use Rattle.std.specs.Prelude.{ℕ, ◌+◌, List, sum_by, length}
use Rattle.fb_numbers.specs.declared.limits.TheConstants.{LARGEST_ENTRY}
use Rattle.fb_values.specs.declared.facts.Datom.{Datom}
use Rattle.fb_values.specs.declared.facts.Value.{Value}
use Rattle.fb_values.specs.declared.facts.Value.TheVariants.{Keyword, Str, Bool as Boolean, Long}
use Rattle.fb_values.specs.declared.facts.Value.TheVariants.{Ref, Instant, Uuid, Symbol, Uri}

-- a tag, a length of four bytes before a text, and the value
abbrev pub value_size : Value → ℕ
value_size (Keyword text) = 5 + length text
value_size (Str text) = 5 + length text
value_size (Boolean b) = 2
value_size (Long n) = 9
value_size (Ref e) = 9
value_size (Instant n) = 9
value_size (Uuid n) = 17
value_size (Symbol text) = 5 + length text
value_size (Uri text) = 5 + length text

-- format, t, instant and the number of datoms; and for each datom entity, attribute, value and
-- whether it was added
abbrev pub entry_size : List Datom → ℕ
entry_size ds = 17 + sum_by (λ d. 17 + value_size d.v) ds

-- the datom of the transaction's instant
abbrev pub instant_size : ℕ
instant_size = 26

-- of an entry
abbrev pub most_bytes : ℕ
most_bytes = LARGEST_ENTRY
