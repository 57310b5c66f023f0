use Rattle.fb_values.specs.Lists.{list_in}
use Rattle.bench.specs.Entries.{LiveIsBefore}
use Rattle.bench.proofs.Entries.{empty_before}
use Rattle.bench.proofs.live.filled.Goals as goal

pub grown-requires-clause-live : goal.grown-requires-clause-live
unfolding LiveIsBefore
grown-requires-clause-live c = λ order. empty_before c.args.covers.now 0 order (list_in c.empty.result order) (c.empty.ensures order)
