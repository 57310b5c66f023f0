use Rattle.std.proofs.Common.{Err, ap, refl}
use Rattle.std.proofs.lemmas.Result.{err_from_is_err_and}
use Rattle.seg_store.proofs.Same.{same_store, stopped_from}
use Rattle.seg_store.proofs.stores.SegStore.reset.Goals as goal

pub returns-in_err-reset-clause-unchanged : goal.returns-in_err-reset-clause-unchanged
returns-in_err-reset-clause-unchanged g c = λ at is.
    let exit = err_from_is_err_and c.from_residual.result c.from_residual.ensures.1 in
    let fault = c.in_err-reset.field-0.0 in
    same_store _ c.args.self.now
    (c.in_err-reset.ensures.unchanged at (ap Err (stopped_from c.from_residual.result fault exit.0 at exit.1 exit.2 is))) refl
