use Rattle.std.proofs.Common.{◌≡◌, take, flat_map}
use Rattle.fb_view.specs.Refills.{gained_of}
use Rattle.fb_view.proofs.replaying.refill_of.Given as goal

abbrev pub invariant-loop-a : goal.invariant-loop-a
invariant-loop-a l = l.found.items ≡ flat_map (gained_of l.covers l.older) (take l.a-index l.attributes)
