use Rattle.std.proofs.Common.{Err, refl, ap}
use Rattle.seg_store.proofs.Same.{same_store, stopped_from}
use Rattle.seg_store.proofs.stores.SegStore.add.Goals as goal

pub returns-in-Err-clause-unchanged : goal.returns-in-Err-clause-unchanged
returns-in-Err-clause-unchanged g c = λ at is.
    same_store _ _
    (c.in-Err.ensures.unchanged at (ap Err (stopped_from _ c.in-Err.fault c.into.result at refl c.into.ensures is))) c.cut.ensures
