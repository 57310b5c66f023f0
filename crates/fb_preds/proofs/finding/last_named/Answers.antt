use Rattle.std.proofs.Common.{◌≡◌, ◌-◌, true, false, bytes_eq, get_or, sym, ◌∙◌, arith}
use Rattle.fb_preds.proofs.Places.{last_place-take}
use Rattle.fb_preds.proofs.finding.last_named.Goals as goal

pub returns-then-eq-clause-last : goal.returns-then-eq-clause-last
returns-then-eq-clause-last g c =
    let e : bytes_eq (get_or c.args.filters.now (c.loop-end.end - 1) c.index-filters-end.result).name c.args.name.now ≡ true =
    rw (← c.as_str.ensures, ← c.as_str-in-loop-end.ensures) (sym c.eq.ensures ∙ c.if-eq.true) in
    sym (last_place-take c.args.name.now c.args.filters.now c.loop-end.end c.index-filters-end.result true c.loop-end-test.true
    c.loop-end.invariant.0 e)
    ∙ c.loop-end.invariant.1

pub loop-end-preserved : goal.loop-end-preserved
loop-end-preserved g c =
    let e : bytes_eq (get_or c.args.filters.now (c.loop-end.end - 1) c.index-filters-end.result).name c.args.name.now ≡ false =
    rw (← c.as_str.ensures, ← c.as_str-in-loop-end.ensures) (sym c.eq.ensures ∙ c.if-eq.false) in (
      omega (arith, c.loop-end.invariant.0),
      sym (last_place-take c.args.name.now c.args.filters.now c.loop-end.end c.index-filters-end.result false c.loop-end-test.true
          c.loop-end.invariant.0 e)
          ∙ c.loop-end.invariant.1,
    )
