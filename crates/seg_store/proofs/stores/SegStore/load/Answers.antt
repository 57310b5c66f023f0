use Rattle.std.proofs.lemmas.Result.{IfOk-weaker}
use Rattle.seg_store.proofs.stores.SegStore.load.Goals as goal

pub loaded_from-requires : goal.loaded_from-requires
loaded_from-requires g c = (c.args.disk, c.in-Ok.ensures.begins)

pub returns-in-Err-clause-kept : goal.returns-in-Err-clause-kept
returns-in-Err-clause-kept g c =
    IfOk-weaker c.loaded_before.result _ _
    (λ loaded is. λ file told. let here = is (g.D.Disk.bytes c.args.disk) c.in-Err.ensures.why_not in
    (here.read, here.file file told, here.kept.roots))
    c.loaded_before.ensures.loaded

pub returns-in-Ok-clause-kept : goal.returns-in-Ok-clause-kept
returns-in-Ok-clause-kept g c =
    IfOk-weaker c.loaded_from.result _ _
    (λ loaded is. λ file told.
    let here = is c.args.disk c.in-Ok.ensures.begins in
    (here.read, here.file file told, here.kept.roots))
    c.loaded_from.ensures.loaded

pub returns-in-Ok-clause-loaded : goal.returns-in-Ok-clause-loaded
returns-in-Ok-clause-loaded g c =
    IfOk-weaker c.loaded_from.result _ _ (λ loaded is. is c.args.disk c.in-Ok.ensures.begins) c.loaded_from.ensures.loaded

pub returns-in-Err-clause-known : goal.returns-in-Err-clause-known
returns-in-Err-clause-known g c =
    IfOk-weaker c.loaded_before.result _ _
    (λ loaded is. is (g.D.Disk.bytes c.args.disk) c.in-Err.ensures.bytes) c.loaded_before.ensures.known

pub returns-in-Ok-clause-known : goal.returns-in-Ok-clause-known
returns-in-Ok-clause-known g c =
    IfOk-weaker c.loaded_from.result _ _ (λ loaded later. later c.args.disk c.in-Ok.ensures.begins) c.loaded_from.ensures.known
