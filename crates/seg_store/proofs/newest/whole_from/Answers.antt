use Rattle.seg_store.proofs.newest.whole_from.Goals as goal

pub returns-clause-newest : goal.returns-clause-newest
returns-clause-newest g c = λ disk read.
    let here = c.in_ok-loaded.ensures.loaded disk read in
    (here, (λ file told. (here.read, here.file file told, here.kept.roots)))
