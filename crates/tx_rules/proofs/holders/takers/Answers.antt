use Rattle.std.proofs.Common.{refl, ap, sym, ◌∙◌}
use Rattle.std.specs.Prelude.{filter}
use Rattle.tx_rules.specs.Holders.{is_taker}
use Rattle.tx_rules.proofs.Keeping.{one_kept, none_kept}
use Rattle.tx_rules.proofs.holders.takers.Goals as goal
use Rattle.tx_rules.proofs.holders.takers.Goals.{then-is_taker+in_ok-push, else-is_taker}

pub loop-triple-preserved : goal.loop-triple-preserved
loop-triple-preserved c =
    let test = is_taker c.args.schema.now in
    let triples = c.args.triples.now in
    let old = c.loop-triple.takers.items in
    let new = c.if-is_taker.takers.items in
    elim c.if-is_taker.branch [
      | then-is_taker+in_ok-push w ↦
          one_kept test triples c.loop-triple.triple-index c.triple-item.result c.loop-triple-test.true c.triple-item.is old new
          (filter test triples) c.loop-triple.invariant _ refl (sym c.is_taker.ensures ∙ w.if-is_taker.true)
          (ap (λ v. v.items) w.takers-is ∙ w.in_ok-push.ensures.items)
      | else-is_taker w ↦
          none_kept test triples c.loop-triple.triple-index c.triple-item.result c.loop-triple-test.true c.triple-item.is old new
          (filter test triples) c.loop-triple.invariant (sym c.is_taker.ensures ∙ w.if-is_taker.false) (ap (λ v. v.items) w.takers-is)
    ]
