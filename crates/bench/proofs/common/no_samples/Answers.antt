use Rattle.std.proofs.Common.{sym, subst}
use Rattle.live_index.specs.Samples.{AreSamples}
use Rattle.live_index.proofs.Samples.{none}
use Rattle.bench.proofs.common.no_samples.Goals as goal

pub returns : goal.returns
returns c = subst AreSamples (sym c.new.ensures.items) none
