-- Ranges of values, as the program has them.
-- Datomic, Indexes (index-range).
use Rattle.std.specs.Prelude.{Bool, true, false, Result, Ok, Err}
use Rattle.edn_model.specs.Form as edn
use Rattle.edn_model.specs.Form.{Form}
use Rattle.view_model.specs.Scan.{Range, between}
use Rattle.read_refusals.specs.declared.reasons.Refusal.{Refusal}
use Rattle.fb_names.specs.declared.ranges.ValueRange.{ValueRange}

abbrev pub range_of : Result ValueRange Refusal → Result Range Refusal
range_of (Ok range) = Ok (between range.attribute range.start range.end)
range_of (Err refusal) = Err refusal

abbrev pub is_nil : Form → Bool
is_nil edn.nil = true
is_nil f = false
