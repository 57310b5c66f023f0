-- An item whose number is one less, and nothing where the number is used up.
-- Datomic, Pull (recursion limits).
use Rattle.std.specs.Prelude.{◌-◌, if◌then◌else◌, nat_le, Option, Some, None}
use Rattle.pull_model.specs.Patterns as model
use Rattle.pull_model.specs.Patterns.{attribute, times}

abbrev pub lessened : model.Item → Option model.Item
lessened (attribute name options (times n)) =
    if nat_le n 1 then None else Some (attribute name options (times (n - 1)))
lessened i = Some i
