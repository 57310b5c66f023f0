use Rattle.std.proofs.Common.{List, map, take, subst}
use Rattle.std.specs.Prelude.{flat_map}
use Rattle.fb_values.specs.declared.facts.Datom.{Datom}
use Rattle.fb_model.specs.Facts.{facts as facts_in}
use Rattle.tx_model.specs.Tempids.{db_of}
use Rattle.tx_asks.specs.Acts.{model_act, sweeps_of}
use Rattle.tx_sweep.specs.Sweep.{Sweeps}
use Rattle.tx_sweep.proofs.Sweeping.{sweeps_both}
use Rattle.tx_sweep.proofs.Forms.{one_more_act}
use Rattle.tx_sweep.proofs.sweep.sweep_form.Goals as goal

pub loop-act-preserved : goal.loop-act-preserved
loop-act-preserved g c = λ swept.
    let h = g.F.Facts.history c.args.facts.now in
    let finds = sweeps_of (db_of h) in
    let acts = c.args.acts.now in
    let act = c.act-item.result in
    let first = c.loop-act.invariant swept in
    subst (λ (asked : List Datom). Sweeps (facts_in h) c.args.place asked c.args.found.now c.sweep_act.new.found)
    (one_more_act finds acts c.loop-act.act-index act c.loop-act-test.true c.act-item.is)
    (sweeps_both (facts_in h) c.args.place (flat_map finds (map model_act (take c.loop-act.act-index acts)))
    (finds (model_act act)) c.args.found.now c.loop-act.found c.sweep_act.new.found first (c.in_ok-sweep_act.ensures first.kept))
