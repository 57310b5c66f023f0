use Rattle.live_index.specs.Samples.{AreSamples}
use Rattle.bench.proofs.segments.trees.samples.Given as goal

abbrev pub invariant-loop-n : goal.invariant-loop-n
invariant-loop-n l = AreSamples l.samples.items
