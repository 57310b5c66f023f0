use Rattle.std.proofs.Common.{◌≡◌, ◌++◌, length, flat_map}
use Rattle.edn_model.specs.Canon.{escaped}
use Rattle.edn_print.specs.Printed.{KeepsFront}
use Rattle.edn_print.proofs.escape.print_inside.Given as goal

-- what is printed and what is left are the whole
abbrev pub invariant-loop-b : goal.invariant-loop-b
invariant-loop-b l = record {
  text : l.out.items ++ flat_map escaped l.rest ≡ l.fn.out.items ++ flat_map escaped l.bytes;
  kept : KeepsFront l.fn.out.items l.out.items;
}

abbrev pub decreases-loop-b : goal.decreases-loop-b
decreases-loop-b l = length l.rest
