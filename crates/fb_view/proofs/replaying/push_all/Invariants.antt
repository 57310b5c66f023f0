use Rattle.std.proofs.Common.{◌≡◌, ◌++◌, take}
use Rattle.fb_view.proofs.replaying.push_all.Given as goal

abbrev pub invariant-loop-d : goal.invariant-loop-d
invariant-loop-d l = l.list.items ≡ l.fn.list.items ++ take l.d-index l.datoms
