use Rattle.std.proofs.Common.{sym}
use Rattle.std.proofs.lemmas.Result.{IfOk-weaker}
use Rattle.fb_view.proofs.snapshot.Snapshot.facts_led.Goals as goal

pub led-requires-clause-beside : goal.led-requires-clause-beside
led-requires-clause-beside c = rw (
  c.sides-sides.ensures.extent,
  c.sides-sides.ensures.order,
  c.sides-sides.ensures.tree,
  c.sides-sides.ensures.live,
) c.sides-sides.ensures.beside

pub led-requires-clause-order : goal.led-requires-clause-order
led-requires-clause-order c = sym c.sides-sides.ensures.order

pub returns-clause-facts : goal.returns-clause-facts
returns-clause-facts c =
    IfOk-weaker c.led.result _ _
    (λ facts is.
    rw (c.sides-sides.ensures.extent, c.sides-sides.ensures.order, c.sides-sides.ensures.tree, c.sides-sides.ensures.live) at is)
    c.led.ensures
