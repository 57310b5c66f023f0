use Rattle.std.proofs.Common.{List, map, subst, arith}
use Rattle.std.specs.Prelude.{flat_map}
use Rattle.fb_model.specs.Facts.{facts as facts_in}
use Rattle.tx_model.specs.Tempids.{db_of}
use Rattle.tx_asks.specs.declared.acts.Act.{Act}
use Rattle.tx_asks.specs.Acts.{model_act, sweeps_of}
use Rattle.tx_sweep.specs.Sweep.{Sweeps}
use Rattle.tx_sweep.proofs.Forms.{swept_none, swept_next, swept_all}
use Rattle.tx_sweep.proofs.sweep.sweep_forms.Goals as goal

pub loop-place-init : goal.loop-place-init
loop-place-init g c =
    swept_none (g.F.Facts.history c.args.facts.now) c.args.forms.now
    (record { visited = c.new.result; pairs = c.new-2.result; askings = c.new-3.result })
    c.new.ensures.empty c.new-2.ensures.empty c.new-3.ensures.items

pub loop-place-preserved : goal.loop-place-preserved
loop-place-preserved g c =
    let h = g.F.Facts.history c.args.facts.now in
    let form = c.index-forms-place.result in
    let sweeps = c.in_ok-sweep_form.ensures c.loop-place.invariant.swept in
    swept_next h c.args.forms.now c.loop-place.place form c.loop-place-test.true c.index-forms-place.is c.loop-place.found
    c.sweep_form.new.found c.loop-place.invariant
    (subst (λ (acts : List Act). Sweeps (facts_in h) c.loop-place.place
    (flat_map (sweeps_of (db_of h)) (map model_act acts)) c.loop-place.found c.sweep_form.new.found) c.deref.ensures.value sweeps)

pub returns : goal.returns
returns g c =
    swept_all (g.F.Facts.history c.args.facts.now) c.args.forms.now c.loop-place.place c.loop-place.found
    (omega arith) c.loop-place.invariant
