-- A tuple goes behind one that it begins with.
use Rattle.std.proofs.Common.{rules}
use Rattle.fb_tuples.proofs.BelowBounds.{longer_is_greater}
use Rattle.fb_tuples.proofs.order.+tuple_cmp.Goals as goal

pub returns-in-len1-up-empty : goal.returns-in-len1-up-empty
returns-in-len1-up-empty t c = search (rules, longer_is_greater)
