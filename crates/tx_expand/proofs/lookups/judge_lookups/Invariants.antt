use Rattle.std.proofs.Common.{◌≡◌, ◌++◌, length, drop, map}
use Rattle.tx_expand.specs.Faults.{ref_faults}
use Rattle.tx_expand.proofs.lookups.judge_lookups.Given as goal

abbrev pub invariant-loop-lookup : goal.invariant-loop-lookup
invariant-loop-lookup l =
    l.judged.items ++ map (ref_faults l.schema) (drop l.lookup-index l.behind)
    ≡ l.fn.judged.items ++ map (ref_faults l.schema) (drop (length l.fn.judged.items) l.lookups)
