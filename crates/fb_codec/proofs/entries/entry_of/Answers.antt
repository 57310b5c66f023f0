use Rattle.fb_codec.proofs.Ends.{breaks_behind}
use Rattle.fb_codec.proofs.entries.entry_of.Goals as goal

pub returns-then-end-payload : goal.returns-then-end-payload
returns-then-end-payload c =
    rw c.misfit.ensures
    (breaks_behind c.args.payload.now c.in_ok-entry.entry c.in_ok-entry.end c.if-end-payload.true c.in_ok-entry.ensures.1)
