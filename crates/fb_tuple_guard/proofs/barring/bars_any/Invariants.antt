use Rattle.std.proofs.Common.{◌≡◌, drop}
use Rattle.std.specs.List.{list_any}
use Rattle.tuple_model.specs.UniqueTuples.{bars_list}
use Rattle.fb_tuple_guard.specs.Sharing.{lists_in}
use Rattle.fb_tuple_guard.proofs.barring.bars_any.Given as goal

abbrev pub invariant-loop-names : goal.invariant-loop-names
invariant-loop-names l =
    list_any (bars_list l.before.entries l.changes) (lists_in (drop l.names-index l.lists))
    ≡ list_any (bars_list l.before.entries l.changes) (lists_in l.lists)
