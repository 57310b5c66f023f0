use Rattle.std.proofs.Common.{◌∙◌, ℕ, List, Result, Ok, Err, ◌++◌, ap, length}
use Rattle.std.specs.Prelude.{OnOk}
use Rattle.std.proofs.lemmas.Result.{on_ok_weaker}
use Rattle.seg_codec.specs.Trees.{ids_lacking}
use Rattle.seg_store.proofs.Keeping.{keeps_alone}
use Rattle.seg_store.proofs.NodeCounts.{all_lacking}
use Rattle.seg_store.proofs.stores.SegStore.renew.Goals as goal

both : {T E : Type 0} (P Q : Type 0) (r : Result T E) → OnOk r P → OnOk r Q → OnOk r (P × Q)
both P Q (Ok x) p q = (p, q)
both P Q (Err e) p q = tt

pub returns-clause-renewed : goal.returns-clause-renewed
returns-clause-renewed g c =
    let d = g.D.Disk in
    let now = c.start_with.ensures in
    let payload = c.in_ok-framed.framed in
    on_ok_weaker c.start_with.result
    (λ is.
    let kept = keeps_alone d.bytes d.images d.moment d.images_since c.new-ids.result payload c.args.roots.now c.args.c
    c.start_with.new.self c.new-ids.ensures c.in_ok-framed.ensures.record is.0 (is.1 ∙ c.in_ok-framed.ensures.ids) in
    (payload, kept.0, kept.1))
    (both _ _ c.start_with.result now.started now.ids)

pub returns-clause-alive : goal.returns-clause-alive
returns-clause-alive g c =
    let trees = c.args.roots.now in
    on_ok_weaker c.start_with.result
    (λ is.
    ap length (is ∙ c.in_ok-framed.ensures.ids)
    ∙ ap (λ (ids : List ℕ). length (ids ++ ids_lacking ids trees)) c.new-ids.ensures
    ∙ all_lacking trees)
    c.start_with.ensures.ids
