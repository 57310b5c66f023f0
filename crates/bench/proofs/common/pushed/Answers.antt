use Rattle.std.proofs.Common.{sym, subst}
use Rattle.live_index.specs.Samples.{AreSamples}
use Rattle.live_index.proofs.Samples.{pushed}
use Rattle.bench.proofs.common.pushed.Goals as goal

pub returns : goal.returns
returns c = subst AreSamples (sym c.in_ok-push.ensures.items) (pushed c.args.list.items c.args.datom c.requires.list c.requires.datom)
