use Rattle.fb_prefix.proofs.Fronts.{IsFront}
use Rattle.fb_prefix.proofs.parts.front_of.Given as goal

abbrev pub invariant-loop-i : goal.invariant-loop-i
invariant-loop-i l = IsFront l.bytes l.i l.n
