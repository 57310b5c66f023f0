use Rattle.std.proofs.Common.{[]}
use Rattle.std.proofs.lemmas.Result.{IfOk-weaker}
use Rattle.seg_store.proofs.newest.first_in.Goals as goal

pub returns-in-Ok-true-clause-first : goal.returns-in-Ok-true-clause-first
returns-in-Ok-true-clause-first g c = λ disk read. c.has_none.ensures.stays disk [] read

pub returns-in-Ok-false-clause-first : goal.returns-in-Ok-false-clause-first
returns-in-Ok-false-clause-first g c =
    IfOk-weaker c.first_beyond.result _ _ (λ first is. λ disk read. is disk (c.has_none.ensures.stays disk [] read))
    c.first_beyond.ensures.first
