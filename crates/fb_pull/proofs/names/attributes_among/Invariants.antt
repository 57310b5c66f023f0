use Rattle.std.proofs.Common.{◌≤◌, length, drop}
use Rattle.fb_pull.specs.Attributes.{names_among, HaveNames}
use Rattle.fb_pull.specs.Near.{lent}
use Rattle.fb_pull.proofs.names.attributes_among.Given as goal

abbrev pub invariant-loop-i : goal.invariant-loop-i
invariant-loop-i l = record {
  within : l.i ≤ length l.datoms;
  have : HaveNames l.schema l.list.items (names_among l.schema (drop l.i (lent l.datoms)));
}

abbrev pub decreases-loop-i : goal.decreases-loop-i
decreases-loop-i l = l.i
