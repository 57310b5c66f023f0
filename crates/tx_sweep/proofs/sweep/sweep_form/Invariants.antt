use Rattle.std.proofs.Common.{map, take}
use Rattle.std.specs.Prelude.{flat_map}
use Rattle.fb_model.specs.Facts.{facts as facts_in}
use Rattle.tx_model.specs.Tempids.{db_of}
use Rattle.tx_asks.specs.Acts.{model_act, sweeps_of}
use Rattle.tx_sweep.specs.Sweep.{AreSwept, Sweeps}
use Rattle.tx_sweep.proofs.sweep.sweep_form.Given as goal

abbrev pub invariant-loop-act : goal.invariant-loop-act
invariant-loop-act g l =
    AreSwept (facts_in (g.F.Facts.history l.facts)) l.place l.fn.found
    → Sweeps (facts_in (g.F.Facts.history l.facts)) l.place
    (flat_map (sweeps_of (db_of (g.F.Facts.history l.facts))) (map model_act (take l.act-index l.acts))) l.fn.found l.found
