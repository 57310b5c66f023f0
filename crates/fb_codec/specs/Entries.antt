-- Datoms and entries that are read.
-- This project's own choice.
use Rattle.std.specs.Prelude.{ℕ, Bool, List}
use Rattle.fb_values.specs.declared.facts.Datom.{Datom}
use Rattle.fb_values.specs.declared.facts.Entry.{Entry}
use Rattle.log_model.specs.Fields.{Reading, and_then, that_fits, read_u8}
use Rattle.log_model.specs.Values.{is_format}
use Rattle.log_model.specs.Payload.{written_format, read_fields}
use Rattle.log_model.specs.Storable.{is_storable_value}

abbrev pub has_storable_value : Datom → Bool
has_storable_value d = is_storable_value written_format d.v

-- an entry at the front, whatever follows it
abbrev pub reads_entry : List ℕ → Reading Entry
reads_entry bytes = and_then (that_fits is_format read_u8 bytes) read_fields
