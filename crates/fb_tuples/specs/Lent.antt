-- What lent rows stand for, and which of them are below a bound.
-- This project's own choice.
use Rattle.std.specs.Prelude.{Bool, List, map, Option, option_map}
use Rattle.std.specs.Ordering.{is_lt}
use Rattle.std.specs.Prelude.{Vec}
use Rattle.std.specs.declared.alloc.Global.{Global}
use Rattle.std.specs.Borrow.{Bor}
use Rattle.fb_values.specs.declared.facts.Datom.{Datom}
use Rattle.fb_values.specs.declared.facts.Value.{Value}
use Rattle.tuple_model.specs.Tuples.{Tuple, Row, tuple_cmp}
use Rattle.fb_tuples.specs.declared.rows.LentRow.{LentRow}

abbrev pub tuple_lent : List (Option (Bor Value)) → Tuple
tuple_lent members = map (option_map (λ v. v.now)) members

abbrev pub model_row : LentRow → Row
model_row row = record { tuple = tuple_lent row.tuple.items; e = row.e }

abbrev pub datoms_lent : List (Bor Datom) → List Datom
datoms_lent ds = map (λ d. d.now) ds

abbrev pub lists_lent : List (Vec (Bor Datom) Global) → List (List Datom)
lists_lent lists = map (λ list. datoms_lent list.items) lists

abbrev pub is_below : Tuple → Row → Bool
is_below bound row = is_lt (tuple_cmp row.tuple bound)
