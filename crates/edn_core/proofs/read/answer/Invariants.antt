use Rattle.std.proofs.Common.{◌-◌, length}
use Rattle.edn_core.proofs.Answering.{Reading}
use Rattle.edn_core.proofs.read.answer.Given as goal

abbrev pub invariant-steps : goal.invariant-steps
invariant-steps l = Reading l.bytes l.fn.at l.frames.items l.here

abbrev pub decreases-steps : goal.decreases-steps
decreases-steps l = length l.bytes - l.here
