use Rattle.std.proofs.Common.{rules}
use Rattle.fb_tuple_guard.proofs.Same.{longer_differs}
use Rattle.fb_tuple_guard.proofs.tuples.+is_same.Goals as goal

pub returns-in-len1-up-empty : goal.returns-in-len1-up-empty
returns-in-len1-up-empty t c = search (rules, longer_differs)
