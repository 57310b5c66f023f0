-- The items so far with those to come are all, and none so far was bad.
use Rattle.std.proofs.Common.{◌≡◌, drop, Some}
use Rattle.edn_model.specs.Form.{forms}
use Rattle.edn_form.specs.View.{forms_of, members}
use Rattle.pull_model.specs.Reading.{both, items_of, first_bad_from}
use Rattle.pull_pattern.specs.View.{pattern_of}
use Rattle.pull_pattern.proofs.reading.read_outermost.Given as goal

abbrev pub invariant-loop-item : goal.invariant-loop-item
invariant-loop-item l =
    (both (Some (pattern_of l.list.items)) (items_of (forms (forms_of (drop l.item (members l.items)))))
    ≡ items_of (forms (forms_of (members l.items))))
    × (first_bad_from l.item (forms (forms_of (drop l.item (members l.items)))) ≡ first_bad_from 0 (forms (forms_of (members l.items))))
