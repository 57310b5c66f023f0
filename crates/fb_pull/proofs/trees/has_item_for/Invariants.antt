use Rattle.std.proofs.Common.{◌≡◌, drop}
use Rattle.pull_model.specs.Tree.{has_item_for}
use Rattle.pull_pattern.specs.View.{pattern_of}
use Rattle.fb_pull.proofs.trees.has_item_for.Given as goal

abbrev pub invariant-loop-item : goal.invariant-loop-item
invariant-loop-item l = has_item_for l.name (pattern_of (drop l.item-index l.items)) ≡ has_item_for l.name (pattern_of l.items)
