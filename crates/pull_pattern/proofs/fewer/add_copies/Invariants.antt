-- The copies so far, and the items to come.
use Rattle.std.proofs.Common.{◌≡◌, ◌++◌, drop}
use Rattle.pull_pattern.specs.View.{model_items}
use Rattle.pull_pattern.proofs.fewer.add_copies.Given as goal

abbrev pub invariant-loop-item : goal.invariant-loop-item
invariant-loop-item l =
    model_items l.list.items ++ model_items (drop l.item-index l.items) ≡ model_items l.fn.list.items ++ model_items l.items
