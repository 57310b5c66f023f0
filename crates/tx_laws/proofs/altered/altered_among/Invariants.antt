use Rattle.std.proofs.Common.{◌≤◌, length, drop}
use Rattle.fb_model.specs.Facts.{facts}
use Rattle.tx_after.specs.After.{after}
use Rattle.tx_laws.specs.Alterations.{HasAltered}
use Rattle.tx_laws.proofs.altered.altered_among.Given as goal

abbrev pub invariant-loop-i : goal.invariant-loop-i
invariant-loop-i g l = record {
  in_range : l.i ≤ length l.datoms;
  has : HasAltered l.map (facts (g.F.Facts.history l.facts)) (after (g.F.Facts.history l.facts) l.datoms) (drop l.i l.datoms);
}

abbrev pub decreases-loop-i : goal.decreases-loop-i
decreases-loop-i g l = l.i
