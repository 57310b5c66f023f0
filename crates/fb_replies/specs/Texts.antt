-- Which values have a text: an instant has one where it lies in the range of instants,
-- and every other value has one.
-- EDN, edn-format, "Built-in tagged elements".
use Rattle.std.specs.Prelude.{Bool, true, List}
use Rattle.std.specs.List.{list_all}
use Rattle.std.specs.Option.{option_map_or}
use Rattle.fb_values.specs.declared.facts.Datom.{Datom}
use Rattle.fb_values.specs.declared.facts.Entry.{Entry}
use Rattle.fb_values.specs.declared.facts.Value.{Value}
use Rattle.fb_values.specs.declared.facts.Value.TheVariants.{Instant}
use Rattle.fb_numbers.specs.Numbers.{is_instant}
use Rattle.tuple_model.specs.Tuples.{Tuple, Row}

abbrev pub has_text : Value → Bool
has_text (Instant z) = is_instant z
has_text v = true

abbrev pub have_texts : List Datom → Bool
have_texts ds = list_all (λ d. has_text d.v) ds

abbrev pub entries_have_texts : List Entry → Bool
entries_have_texts entries = list_all (λ entry. have_texts entry.datoms) entries

-- nil has one too
abbrev pub members_have_texts : Tuple → Bool
members_have_texts members = list_all (λ member. option_map_or has_text member true) members

abbrev pub rows_have_texts : List Row → Bool
rows_have_texts rows = list_all (λ row. members_have_texts row.tuple) rows
