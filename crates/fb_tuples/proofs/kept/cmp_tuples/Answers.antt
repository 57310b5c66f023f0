-- The order of the members' type is that of the members.
use Rattle.std.proofs.Common.{◌∙◌}
use Rattle.fb_tuples.proofs.LentOrder.{owned_tuples_same}
use Rattle.fb_tuples.proofs.kept.cmp_tuples.Goals as goal

pub returns : goal.returns
returns c = c.cmp.ensures ∙ owned_tuples_same c.args.x.now c.args.y.now
