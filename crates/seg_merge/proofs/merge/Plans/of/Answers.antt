use denote.Param.Send.{IsSend, sendable}
use denote.Param as Param
use denote.Struct.Field as Field
use Rattle.std.proofs.Crossing as heap
use Rattle.seg_tree.proofs.roots.Roots.TheSendSync as roots
use Rattle.seg_merge.proofs.Crossing.{Live-sync, Covers-sync}
use Rattle.seg_merge.proofs.merge.Plans.of.Goals as goal

pub join-by_entity-requires-send-F : goal.join-by_entity-requires-send-F
join-by_entity-requires-send-F g c κs within =
    let shared = c.type_bounds.sync-R in
    let lent : (ℓ : _) → IsSend (Field.shr_ref_field ℓ (Param.param 0 g.row.R) tt).row =
    λ ℓ. search (shared, heap.crosses, sendable) depth 10 in
    search (lent, roots.the_sync, Live-sync, Covers-sync, heap.crosses, sendable) depth 30 fits 10000
