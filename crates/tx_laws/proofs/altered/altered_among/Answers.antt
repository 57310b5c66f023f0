use Rattle.std.proofs.Common.{◌≡◌, List, drop, subst, sym, arith}
use Rattle.fb_values.specs.declared.facts.Datom.{Datom}
use Rattle.fb_model.specs.Facts.{facts}
use Rattle.tx_after.specs.After.{after}
use Rattle.tx_laws.specs.Alterations.{HasAltered}
use Rattle.tx_laws.proofs.Drops.{drop_before}
use Rattle.tx_laws.proofs.altered.altered_among.Goals as goal

pub loop-i-preserved : goal.loop-i-preserved
loop-i-preserved g c =
    let h = g.F.Facts.history c.args.facts.now in
    let i = c.loop-i.i in
    let ds = c.args.datoms.now in
    let first = drop_before ds i c.index-datoms-i.result (omega arith) c.loop-i.invariant.in_range c.index-datoms-i.is in
    record {
      in_range = omega (arith, c.loop-i.invariant.in_range);
      has =
          subst (λ (l : List Datom). HasAltered c.alter.new.map (facts h) (after h ds) l) (sym first)
          (c.in_ok-alter.ensures (drop i ds) c.loop-i.invariant.has);
    }

pub returns : goal.returns
returns g c =
    let h = g.F.Facts.history c.args.facts.now in
    let ds = c.args.datoms.now in
    let zero : c.loop-i.i ≡ 0 = omega arith in
    subst (λ i. HasAltered c.loop-i.map (facts h) (after h ds) (drop i ds)) zero c.loop-i.invariant.has
