use Rattle.std.proofs.Common.{◌≡◌, drop}
use Rattle.std.specs.List.{list_any}
use Rattle.fb_tuple_guard.specs.Sought.{is_met}
use Rattle.fb_tuple_guard.proofs.sharing.is_among.Given as goal

abbrev pub invariant-loop-d : goal.invariant-loop-d
invariant-loop-d l = list_any (is_met l.tuples l.sought) (drop l.d-index l.datoms) ≡ list_any (is_met l.tuples l.sought) l.datoms
