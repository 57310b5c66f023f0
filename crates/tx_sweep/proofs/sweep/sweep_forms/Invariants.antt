use Rattle.tx_sweep.proofs.Forms.{SweptTo}
use Rattle.tx_sweep.proofs.sweep.sweep_forms.Given as goal

abbrev pub invariant-loop-place : goal.invariant-loop-place
invariant-loop-place g l = SweptTo (g.F.Facts.history l.facts) l.forms l.place l.found
