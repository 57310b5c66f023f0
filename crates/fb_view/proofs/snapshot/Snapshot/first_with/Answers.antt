use Rattle.std.proofs.Common.{sym}
use Rattle.fb_view.proofs.snapshot.Snapshot.first_with.Goals as goal

pub first_with-requires-clause-beside : goal.first_with-requires-clause-beside
first_with-requires-clause-beside c = rw (
  c.sides-sides.ensures.extent,
  c.sides-sides.ensures.order,
  c.sides-sides.ensures.tree,
  c.sides-sides.ensures.live,
) c.sides-sides.ensures.beside

pub first_with-requires-clause-order : goal.first_with-requires-clause-order
first_with-requires-clause-order c = sym c.sides-sides.ensures.order

pub returns-clause-first : goal.returns-clause-first
returns-clause-first c =
    rw (c.sides-sides.ensures.extent, c.sides-sides.ensures.order, c.sides-sides.ensures.tree, c.sides-sides.ensures.live) at
    c.first_with.ensures
