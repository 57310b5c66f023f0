-- An open end leaves all rows.
use Rattle.std.proofs.Common.{map}
use Rattle.fb_tuples.proofs.BelowBounds.{all_in_range}
use Rattle.fb_tuples.proofs.order.before.Goals as goal

pub returns-in-None : goal.returns-in-None
returns-in-None g c = rw c.in-None.is (all_in_range (map g.R.Bounded.stands_for c.args.rows.now))
