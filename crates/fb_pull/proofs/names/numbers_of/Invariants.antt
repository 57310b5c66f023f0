use Rattle.std.proofs.Common.{◌-◌}
use Rattle.std.specs.Option.{option_map_or}
use Rattle.fb_db.specs.Seen.{window_of}
use Rattle.fb_pull.proofs.Attributes.{IsFound}
use Rattle.fb_pull.proofs.names.numbers_of.Given as goal

abbrev pub invariant-loop-next : goal.invariant-loop-next
invariant-loop-next g l = IsFound l.db.snapshot.entries (window_of l.db) (g.S.Selector.selects l.db.filter) l.e l.list.items l.next

abbrev pub decreases-loop-next : goal.decreases-loop-next
decreases-loop-next g l = option_map_or (λ n. 18446744073709551616 - n) l.next 0
