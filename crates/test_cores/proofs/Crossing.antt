-- A snapshot may be sent to other threads and shared with them. Its entries, its schema and its live index have trees, of which a search
-- has to be told.
use mathlib.Core.List.{[], ◌∷◌}
use denote.RattleType.{RattleType}
use denote.Param.Send.{IsSend, IsSync, sendable, view_send, view_sync}
use denote.Param.SendFields.{as_row_send, as_row_sync, declared_send, declared_sync}
use denote.Struct.Field.{row_field}
use denote.Struct.Tuple.{Tuple, tuple_type}
use Rattle.std.proofs.Crossing as heap
use Rattle.fb_values.proofs.facts.Datom.TheSendSync as datom
use Rattle.fb_chunks.proofs.tree.Tree.TheLaws.TheKnot as chunks
use Rattle.fb_chunks.proofs.tails.Link.TheLaws.TheKnot as links
use Rattle.fb_chunks.specs.contracts.sharing.Shared as Shared
use Rattle.shared_map.proofs.tree.Tree.TheLaws.TheKnot as maps
use Rattle.shared_map.specs.contracts.tree.Tree as Tree
use Rattle.shared_map.specs.contracts.map.SharedMap as Map
use Rattle.fb_history.specs.contracts.entries.EntryList as EntryList
use Rattle.fb_covers.specs.contracts.Covers as Covers
use Rattle.fb_schema.proofs.attribute.Attribute.TheSendSync as attribute
use Rattle.fb_schema.proofs.idents.Name.TheSendSync as name
use Rattle.fb_schema.specs.contracts.facts.Facts as Facts
use Rattle.fb_schema.specs.contracts.idents.Names as Names
use Rattle.fb_schema.specs.contracts.tables.Tables as Tables
use Rattle.fb_schema.specs.contracts.schema.Schema as Schema
use Rattle.live_index.proofs.Crossing.{Live-send, Live-sync}
use Rattle.seg_tree.proofs.roots.Roots.TheSendSync as roots
use Rattle.fb_view.specs.contracts.growth.Recent as Recent
use Rattle.fb_view.specs.contracts.growth.Older as Older
use Rattle.fb_view.specs.contracts.snapshot.Parts as Parts
use Rattle.fb_view.specs.contracts.snapshot.Snapshot as Snapshot

EntryList-send : IsSend EntryList.the_row
EntryList-send = search (sendable, heap.crosses, chunks.crosses, links.crosses, datom.the_send, datom.the_sync) depth 60 fits 10000

EntryList-sync : IsSync EntryList.the_row
EntryList-sync = search (sendable, heap.crosses, chunks.crosses, links.crosses, datom.the_send, datom.the_sync) depth 60 fits 10000

Shared-send : (T : RattleType) → IsSend T → IsSync T → IsSend (Shared.the_row T)
Shared-send T s y = view_send _ _ _ _ _ (declared_send (Shared.TheInside.the_type T) (heap.Arc-send T s y, tt))

Shared-sync : (T : RattleType) → IsSend T → IsSync T → IsSync (Shared.the_row T)
Shared-sync T s y = view_sync _ _ _ _ _ (declared_sync (Shared.TheInside.the_type T) (heap.Arc-sync T s y, tt))

Tree-send : (T : RattleType) → IsSend T → IsSync T → IsSend (Tree.the_row T)
Tree-send T s y =
    maps.both_send-Tree T
    heap.Arc-send (as_row_send (row_field _) (Shared-send T s y)) (search sendable)
    heap.Arc-sync (as_row_sync (row_field _) (Shared-sync T s y)) (search sendable)

Tree-sync : (T : RattleType) → IsSend T → IsSync T → IsSync (Tree.the_row T)
Tree-sync T s y =
    maps.both_sync-Tree T
    heap.Arc-send (as_row_send (row_field _) (Shared-send T s y)) (search sendable)
    heap.Arc-sync (as_row_sync (row_field _) (Shared-sync T s y)) (search sendable)

pair-send : (K V : RattleType) → IsSend K → IsSend V → IsSend (Tuple (K ∷ V ∷ []))
pair-send K V k v = declared_send (tuple_type (K ∷ V ∷ [])) (as_row_send (row_field K) k, (as_row_send (row_field V) v, tt))

pair-sync : (K V : RattleType) → IsSync K → IsSync V → IsSync (Tuple (K ∷ V ∷ []))
pair-sync K V k v = declared_sync (tuple_type (K ∷ V ∷ [])) (as_row_sync (row_field K) k, (as_row_sync (row_field V) v, tt))

-- a map is sent and shared as its keys and values are: the schema has a map of maps, in which a search that is told of trees alone is lost
Map-send : (K V : RattleType) (o : _) (p : _) (q : _) → IsSend K → IsSync K → IsSend V → IsSync V → IsSend (Map.the_row K V o p q)
Map-send K V o p q ks ky vs vy =
    let s = pair-send K V ks vs in
    let y = pair-sync K V ky vy in
    let root = heap.Arc-send (Tree.the_row (Tuple (K ∷ V ∷ []))) (Tree-send _ s y) (Tree-sync _ s y) in
    view_send _ _ _ _ _ (declared_send (Map.TheInside.the_type K V o p q) (heap.send, (root, tt)))

Map-sync : (K V : RattleType) (o : _) (p : _) (q : _) → IsSend K → IsSync K → IsSend V → IsSync V → IsSync (Map.the_row K V o p q)
Map-sync K V o p q ks ky vs vy =
    let s = pair-send K V ks vs in
    let y = pair-sync K V ky vy in
    let root = heap.Arc-sync (Tree.the_row (Tuple (K ∷ V ∷ []))) (Tree-send _ s y) (Tree-sync _ s y) in
    view_sync _ _ _ _ _ (declared_sync (Map.TheInside.the_type K V o p q) (heap.sync, (root, tt)))

Covers-send : IsSend Covers.the_row
Covers-send = search (sendable, Map-send) depth 60 fits 10000

Covers-sync : IsSync Covers.the_row
Covers-sync = search (sendable, Map-sync) depth 60 fits 10000

Facts-send : IsSend Facts.the_row
Facts-send = search (sendable, heap.crosses, Map-send, datom.the_send, datom.the_sync) depth 60 fits 10000

Facts-sync : IsSync Facts.the_row
Facts-sync = search (sendable, heap.crosses, Map-sync, datom.the_send, datom.the_sync) depth 60 fits 10000

Names-send : IsSend Names.the_row
Names-send = search (sendable, heap.crosses, Map-send, Map-sync, name.the_send, name.the_sync) depth 60 fits 10000

Names-sync : IsSync Names.the_row
Names-sync = search (sendable, heap.crosses, Map-send, Map-sync, name.the_send, name.the_sync) depth 60 fits 10000

Tables-send : IsSend Tables.the_row
Tables-send = search (sendable, Map-send, attribute.the_send, attribute.the_sync, Facts-send, Names-send, Covers-send) depth 60 fits 10000

Tables-sync : IsSync Tables.the_row
Tables-sync = search (sendable, Map-sync, attribute.the_send, attribute.the_sync, Facts-sync, Names-sync, Covers-sync) depth 60 fits 10000

Schema-send : IsSend Schema.the_row
Schema-send = search (sendable, heap.crosses, Tables-send, Tables-sync) depth 20

Schema-sync : IsSync Schema.the_row
Schema-sync = search (sendable, heap.crosses, Tables-send, Tables-sync) depth 20

Recent-send : IsSend (Recent.the_field).row
Recent-send = search (sendable, Schema-send, Live-send) depth 20

Recent-sync : IsSync (Recent.the_field).row
Recent-sync = search (sendable, Schema-sync, Live-sync) depth 20

Older-send : IsSend Older.the_row
Older-send = search (sendable, roots.the_field_send, Covers-send) depth 20

Older-sync : IsSync Older.the_row
Older-sync = search (sendable, roots.the_field_sync, Covers-sync) depth 20

SharedOlder-send : IsSend (Shared.the_field Older.the_row).row
SharedOlder-send = Shared-send Older.the_row Older-send Older-sync

SharedOlder-sync : IsSync (Shared.the_field Older.the_row).row
SharedOlder-sync = Shared-sync Older.the_row Older-send Older-sync

Parts-send : IsSend Parts.the_row
Parts-send = search (sendable, EntryList-send, Recent-send, SharedOlder-send) depth 20

Parts-sync : IsSync Parts.the_row
Parts-sync = search (sendable, EntryList-sync, Recent-sync, SharedOlder-sync) depth 20

pub Snapshot-send : IsSend Snapshot.the_row
Snapshot-send = search (sendable, heap.crosses, Parts-send, Parts-sync) depth 20

pub Snapshot-sync : IsSync Snapshot.the_row
Snapshot-sync = search (sendable, heap.crosses, Parts-send, Parts-sync) depth 20
