use Rattle.std.proofs.Common.{◌≡◌, ◌+◌, ◌-◌, ◌∙◌, ◌∷◌, drop, ap, sym, arith, length-drop}
use Rattle.std.specs.Ordering.{is_lt}
use Rattle.std.proofs.lemmas.Bool.{not-false}
use Rattle.std.proofs.lemmas.Cmp.{is_lt_index}
use Rattle.fb_values.specs.declared.indexes.Order.TheVariants.{Eavt}
use Rattle.fb_values.specs.Rising.{rises}
use Rattle.tx_laws.proofs.Drops.{drop_first, drop_before}
use Rattle.tx_laws.proofs.Neighbours.{one_rises, next_rises}
use Rattle.tx_laws.proofs.datoms.rise.Goals as goal

pub loop-i-preserved : goal.loop-i-preserved
loop-i-preserved c =
    let i = c.loop-i.i in
    let ds = c.args.datoms.now in
    let x = c.index-datoms-i in
    let y = c.index-datoms-i-in-loop-i in
    let before = drop_before ds i x.result (omega (arith, c.loop-i.invariant.from_one)) (omega arith) x.is in
    let next = drop_first ds i y.result (omega arith) y.is in
    let less = ap is_lt (sym c.cmp_in.ensures) ∙ is_lt_index c.cmp_in.result ∙ not-false _ (sym c.if-ne.ensures) in
    let one : i + 1 - 1 ≡ i = omega arith in
    record {
      from_one = omega arith;
      left =
          ap (λ n. rises Eavt (drop n ds)) one ∙ ap (rises Eavt) next
          ∙ sym (next_rises Eavt x.result y.result (drop (i + 1) ds) less)
          ∙ ap (λ l. rises Eavt (x.result ∷ l)) (sym next) ∙ ap (rises Eavt) (sym before)
          ∙ c.loop-i.invariant.left;
    }

pub returns : goal.returns
returns c =
    sym (one_rises Eavt (drop (c.loop-i.i - 1) c.args.datoms.now)
    (omega (arith, length-drop (c.loop-i.i - 1) c.args.datoms.now, c.loop-i-test.false)))
    ∙ c.loop-i.invariant.left
