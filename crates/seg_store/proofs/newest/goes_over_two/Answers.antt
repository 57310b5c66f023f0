use Rattle.seg_store.proofs.newest.goes_over_two.Goals as goal

pub returns-in_err-goes_over-clause-read : goal.returns-in_err-goes_over-clause-read
returns-in_err-goes_over-clause-read g c = λ disk records read. c.goes_over.ensures.read disk records read

pub returns-then-not-branch-clause-read : goal.returns-then-not-branch-clause-read
returns-then-not-branch-clause-read g c = λ disk records read. c.goes_over.ensures.read disk records read

pub returns-clause-read : goal.returns-clause-read
returns-clause-read g c = λ disk records read.
    let one = c.goes_over.ensures.read disk records read in
    c.goes_over-2.ensures.read disk one.0 one.1
