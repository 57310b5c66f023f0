use denote.Param.Send.{sendable}
use Rattle.std.proofs.Crossing as heap
use Rattle.fb_values.proofs.indexes.Order.TheSendSync as order
use Rattle.seg_tree.proofs.roots.Roots.TheSendSync as roots
use Rattle.seg_merge.proofs.Crossing.{Live-sync, Covers-sync}
use Rattle.seg_merge.proofs.merge.plan_two.Goals as goal

pub join-requires-send-F : goal.join-requires-send-F
join-requires-send-F g c κs within =
    search (roots.the_sync, Live-sync, Covers-sync, order.the_sync, heap.crosses, sendable) depth 30 fits 10000
