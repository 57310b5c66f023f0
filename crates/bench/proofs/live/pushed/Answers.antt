use Rattle.std.proofs.Common.{◌+◌, sym, subst}
use Rattle.bench.specs.Entries.{IsEntryUpto}
use Rattle.bench.proofs.Entries.{one_more}
use Rattle.bench.proofs.live.pushed.Goals as goal

pub returns : goal.returns
returns c = λ n e a all of from.
    subst (IsEntryUpto n c.args.datom.e (c.args.datom.a + 1)) (sym c.in_ok-push.ensures.items)
    (one_more n e a c.args.list.items c.args.datom all of from)
