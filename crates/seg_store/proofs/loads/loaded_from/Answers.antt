use Rattle.std.proofs.lemmas.Result.{IfOk-weaker}
use Rattle.seg_store.proofs.loads.loaded_from.Goals as goal

pub loaded_behind-requires : goal.loaded_behind-requires
loaded_behind-requires g c =
    let all = c.in-Ok.ensures.found c.requires.0 c.requires.1 in
    (c.requires.0, all.0, all.1)

pub returns-in-Ok-clause-loaded : goal.returns-in-Ok-clause-loaded
returns-in-Ok-clause-loaded g c =
    IfOk-weaker c.loaded_behind.result _ _
    (λ loaded is. λ disk read. let all = c.in-Ok.ensures.found disk read in is disk all.0 all.1)
    c.loaded_behind.ensures.loaded

pub returns-in-Ok-clause-known : goal.returns-in-Ok-clause-known
returns-in-Ok-clause-known g c =
    IfOk-weaker c.loaded_behind.result _ _
    (λ loaded later. λ disk read file told. let mid = (c.in-Ok.ensures.found disk read).1.known file told in later mid.0 mid.1)
    c.loaded_behind.ensures.known
