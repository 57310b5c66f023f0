use Rattle.seg_store.proofs.newest.newest_leaves.Goals as goal

pub returns-in-None-clause-opened : goal.returns-in-None-clause-opened
returns-in-None-clause-opened g c = λ disk read. (c.in_ok-found.ensures.found disk read).1.opened

pub returns-clause-opened : goal.returns-clause-opened
returns-clause-opened g c = λ disk read. (c.in_ok-found.ensures.found disk read).1.opened
