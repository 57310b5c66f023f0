-- The live index and the coverage may be shared with other threads. The coverage has trees, of which a search has to be told.
use denote.Param.Send.{IsSync, sendable}
use Rattle.std.proofs.Crossing as heap
use Rattle.shared_map.proofs.tree.Tree.TheLaws.TheKnot as tree
use Rattle.fb_covers.specs.contracts.Covers as Covers
use Rattle.live_index.proofs.Crossing as live
use Rattle.live_index.specs.contracts.live.Live as Live

pub Live-sync : IsSync Live.the_row
Live-sync = live.Live-sync

pub Covers-sync : IsSync Covers.the_row
Covers-sync = search (sendable, heap.crosses, tree.crosses) depth 60 fits 10000
