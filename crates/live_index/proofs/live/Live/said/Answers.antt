use Rattle.fb_values.specs.Lists.{list_in}
use Rattle.live_index.proofs.Halves.{both_of, pair_of}
use Rattle.live_index.proofs.live.Live.said.Goals as goal

pub invariant_of-result : goal.invariant_of-result
invariant_of-result c =
    let order = c.args.order in
    rw (c.walk.ensures, c.walk-2.ensures, c.holding.ensures.stands order, c.past.ensures.withdrawn order)
    (pair_of order (list_in c.args.self.now order) (c.holding.ensures.rising order))

pub returns : goal.returns
returns c =
    let order = c.args.order in
    rw (c.walk.ensures, c.walk-2.ensures, c.holding.ensures.stands order, c.past.ensures.withdrawn order)
    (both_of order (list_in c.args.self.now order) (c.holding.ensures.rising order))
