use Rattle.std.proofs.Common.{◌≤◌, length, drop}
use Rattle.std.specs.Prelude.{filter_map}
use Rattle.pull_model.specs.Found.{names_in_order}
use Rattle.fb_pull.specs.Attributes.{name_of, HaveNames}
use Rattle.fb_pull.proofs.names.attributes_in_order.Given as goal

abbrev pub invariant-loop-i : goal.invariant-loop-i
invariant-loop-i l = record {
  within : l.i ≤ length l.numbers;
  have : HaveNames l.schema l.list.items (names_in_order (filter_map (name_of l.schema) (drop l.i l.numbers)));
}

abbrev pub decreases-loop-i : goal.decreases-loop-i
decreases-loop-i l = l.i
