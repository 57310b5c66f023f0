use Rattle.std.proofs.Common.{◌≡◌, take}
use Rattle.fb_view.specs.Refills.{all_missed}
use Rattle.fb_view.proofs.growth.Recent.missed.Given as goal

abbrev pub invariant-loop-a : goal.invariant-loop-a
invariant-loop-a l = l.found.items ≡ all_missed l.self l.older (take l.a-index l.attributes)
