use Rattle.std.proofs.Common.{[]}
use Rattle.seg_store.proofs.Opening.{opened_back}
use Rattle.seg_store.proofs.newest.first_beyond.Goals as goal

pub returns-in-Ok-true-clause-first : goal.returns-in-Ok-true-clause-first
returns-in-Ok-true-clause-first g c = λ disk read.
    let d = g.D.Disk in
    let more = c.goes_over_two.ensures.read disk [] read in
    opened_back d.bytes (d.bytes disk) _ _ c.give_back.ensures more.1.begun

pub returns-in-Ok-false-clause-first : goal.returns-in-Ok-false-clause-first
returns-in-Ok-false-clause-first g c = λ disk read.
    let d = g.D.Disk in
    let more = c.goes_over_two.ensures.read disk [] read in
    opened_back d.bytes (d.bytes disk) _ _ c.give_back-in-Ok-false.ensures more.1.begun
