use Rattle.std.proofs.Common.{◌+◌, length}
use Rattle.fb_model.specs.Facts.{facts as facts_in}
use Rattle.tx_sweep.specs.Sweep.{has_visited, AreSwept}
use Rattle.tx_sweep.proofs.Visiting.{IsVisiting, open_parts}
use Rattle.tx_sweep.proofs.entity.sweep_entity.Given as goal

abbrev pub invariant-loop-next : goal.invariant-loop-next
invariant-loop-next g l =
    AreSwept (facts_in (g.F.Facts.history l.facts)) l.place l.fn.found
    → IsVisiting (g.F.Facts.history l.facts) l.place l.e l.stack.items l.fn.found l.found

abbrev pub decreases-loop-next : goal.decreases-loop-next
decreases-loop-next g l = length l.stack.items + open_parts l.schema (has_visited l.found) (facts_in (g.F.Facts.history l.facts))
