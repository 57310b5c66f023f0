-- What is read so far, and what is still to be read, are the whole.
use Rattle.std.proofs.Common.{◌≡◌, drop, Some}
use Rattle.edn_model.specs.Form as edn
use Rattle.edn_form.specs.View.{forms_of, pairs_of, members, entries}
use Rattle.pull_model.specs.Reading.{both, items_of, specifications_of}
use Rattle.pull_pattern.specs.View.{pattern_of}
use Rattle.pull_pattern.proofs.reading.+read.Given as goal

abbrev pub invariant-add_items-loop-f : goal.invariant-add_items-loop-f
invariant-add_items-loop-f l =
    both (Some (pattern_of l.list.items)) (items_of (edn.forms (forms_of (drop l.f-index (members l.items)))))
    ≡ both (Some (pattern_of l.fn.list.items)) (items_of (edn.forms (forms_of (members l.items))))

abbrev pub invariant-add_specifications-loop-key : goal.invariant-add_specifications-loop-key
invariant-add_specifications-loop-key l =
    both (Some (pattern_of l.list.items)) (specifications_of (edn.pairs (pairs_of (drop l.key-index (entries l.pairs)))))
    ≡ both (Some (pattern_of l.fn.list.items)) (specifications_of (edn.pairs (pairs_of (entries l.pairs))))
