-- What of a run crosses threads: a session with its desk is sent to one, and the connection is shared with all, whatever its log. Entries,
-- authors, the schema and the live index have trees, of which a search has to be told.
use mathlib.Core.List.{[], ◌∷◌}
use denote.RattleType.{RattleType}
use denote.Param.Send.{IsSend, IsSync, sendable, view_send, view_sync}
use denote.Param.SendFields.{as_row_send, as_row_sync, declared_sync, declared_send}
use denote.Struct.Field.{row_field}
use denote.Struct.Tuple.{Tuple, tuple_type}
use denote.Builtin.{unit}
use Rattle.fb_values.specs.contracts.facts.Entry as Entry
use Rattle.fb_conn.specs.contracts.home.HomeNamed.TheImpl.{no_dict, ghosts as homes}
use Rattle.fb_conn.specs.contracts.letters.LetterNamed.TheImpl.{ghosts as letters}
use Rattle.fb_conn.specs.contracts.letters.LetterMailed.TheImpl.{ghosts as mailed}
use Rattle.std.proofs.Crossing as heap
use Rattle.std.specs.contracts.option.Option as Option
use Rattle.std.specs.contracts.sync.Mutex as Mutex
use Rattle.std_heap.proofs.Global.TheSendSync as handle
use Rattle.fb_values.proofs.facts.Datom.TheSendSync as datom
use Rattle.fb_chunks.proofs.tree.Tree.TheLaws.TheKnot as chunks
use Rattle.fb_chunks.proofs.tails.Link.TheLaws.TheKnot as links
use Rattle.fb_chunks.specs.contracts.sharing.Shared as Shared
use Rattle.shared_map.proofs.tree.Tree.TheLaws.TheKnot as maps
use Rattle.shared_map.specs.contracts.tree.Tree as Tree
use Rattle.shared_map.specs.contracts.map.SharedMap as Map
use Rattle.fb_history.specs.contracts.entries.EntryList as EntryList
use Rattle.fb_history.specs.contracts.authors.Authors as Authors
use Rattle.fb_covers.specs.contracts.Covers as Covers
use Rattle.fb_schema.proofs.attribute.Attribute.TheSendSync as attribute
use Rattle.fb_schema.proofs.idents.Name.TheSendSync as name
use Rattle.fb_schema.specs.contracts.facts.Facts as Facts
use Rattle.fb_schema.specs.contracts.idents.Names as Names
use Rattle.fb_schema.specs.contracts.tables.Tables as Tables
use Rattle.fb_schema.specs.contracts.schema.Schema as Schema
use Rattle.live_index.proofs.Crossing.{Live-send, Live-sync}
use Rattle.seg_tree.proofs.roots.Roots.TheSendSync as roots
use Rattle.fb_view.specs.contracts.growth.Recent as Recent
use Rattle.fb_view.specs.contracts.growth.Older as Older
use Rattle.fb_view.specs.contracts.snapshot.Parts as Parts
use Rattle.fb_view.specs.contracts.snapshot.Snapshot as Snapshot
use Rattle.fb_core.specs.contracts.shared.Core as Core
use Rattle.fb_core.specs.contracts.accepting.Draft as Draft
use Rattle.board_rule.proofs.seat.BoardSeat.TheSendSync as board_seat
use Rattle.board_rule.proofs.board.Board.TheSendSync as board
use Rattle.fb_conn.proofs.bell.Doorbell.TheSendSync as bell
use Rattle.fb_log.specs.declared.logs.Log.{Ghosts}
use Rattle.fb_conn.specs.contracts.seats.Seat as Seat
use Rattle.fb_conn.specs.contracts.letters.Letter as Letter
use Rattle.fb_conn.specs.contracts.home.Kept as Kept
use Rattle.fb_conn.specs.contracts.home.Home as Home
use Rattle.fb_conn.specs.contracts.tray.Shown as Shown
use Rattle.fb_conn.specs.contracts.tray.Laid as Laid
use Rattle.fb_conn.specs.contracts.tray.Tray as Tray
use Rattle.fb_conn.specs.contracts.conn.Conn as Conn
use Rattle.conn_desk.specs.contracts.desks.ConnDesk as ConnDesk
use Rattle.fb_roots.proofs.bases.Base.TheSendSync as base
use Rattle.merge_worker.proofs.ends.WorkEnd.TheSendSync as ended
use Rattle.fb_disk.specs.declared.disks.Disk.{Ghosts as DiskGhosts}
use Rattle.seg_store.proofs.stores.SegStore.TheSendSync as store
use Rattle.fb_run.specs.contracts.merging.Trees as Trees
use Rattle.fb_run.specs.contracts.merging.Worker as Worker
use Rattle.fb_run.specs.contracts.jobs.Job as Job
use Rattle.fb_run.proofs.outcome.SessionOut.TheSendSync as out
use denote.Ref.{NamedLft}

EntryList-send : IsSend EntryList.the_row
EntryList-send = search (sendable, heap.crosses, chunks.crosses, links.crosses, datom.the_send, datom.the_sync) depth 60 fits 10000

EntryList-sync : IsSync EntryList.the_row
EntryList-sync = search (sendable, heap.crosses, chunks.crosses, links.crosses, datom.the_send, datom.the_sync) depth 60 fits 10000

Shared-send : (T : RattleType) → IsSend T → IsSync T → IsSend (Shared.the_row T)
Shared-send T s y = view_send _ _ _ _ _ (declared_send (Shared.TheInside.the_type T) (heap.Arc-send T s y, tt))

Shared-sync : (T : RattleType) → IsSend T → IsSync T → IsSync (Shared.the_row T)
Shared-sync T s y = view_sync _ _ _ _ _ (declared_sync (Shared.TheInside.the_type T) (heap.Arc-sync T s y, tt))

Tree-send : (T : RattleType) → IsSend T → IsSync T → IsSend (Tree.the_row T)
Tree-send T s y =
    maps.both_send-Tree T
    heap.Arc-send (as_row_send (row_field _) (Shared-send T s y)) (search sendable)
    heap.Arc-sync (as_row_sync (row_field _) (Shared-sync T s y)) (search sendable)

Tree-sync : (T : RattleType) → IsSend T → IsSync T → IsSync (Tree.the_row T)
Tree-sync T s y =
    maps.both_sync-Tree T
    heap.Arc-send (as_row_send (row_field _) (Shared-send T s y)) (search sendable)
    heap.Arc-sync (as_row_sync (row_field _) (Shared-sync T s y)) (search sendable)

pair-send : (K V : RattleType) → IsSend K → IsSend V → IsSend (Tuple (K ∷ V ∷ []))
pair-send K V k v = declared_send (tuple_type (K ∷ V ∷ [])) (as_row_send (row_field K) k, (as_row_send (row_field V) v, tt))

pair-sync : (K V : RattleType) → IsSync K → IsSync V → IsSync (Tuple (K ∷ V ∷ []))
pair-sync K V k v = declared_sync (tuple_type (K ∷ V ∷ [])) (as_row_sync (row_field K) k, (as_row_sync (row_field V) v, tt))

-- a map is sent and shared as its keys and values are: the schema has a map of maps, in which a search that is told of trees alone is lost
Map-send : (K V : RattleType) (o : _) (p : _) (q : _) → IsSend K → IsSync K → IsSend V → IsSync V → IsSend (Map.the_row K V o p q)
Map-send K V o p q ks ky vs vy =
    let s = pair-send K V ks vs in
    let y = pair-sync K V ky vy in
    let root = heap.Arc-send (Tree.the_row (Tuple (K ∷ V ∷ []))) (Tree-send _ s y) (Tree-sync _ s y) in
    view_send _ _ _ _ _ (declared_send (Map.TheInside.the_type K V o p q) (heap.send, (root, tt)))

Map-sync : (K V : RattleType) (o : _) (p : _) (q : _) → IsSend K → IsSync K → IsSend V → IsSync V → IsSync (Map.the_row K V o p q)
Map-sync K V o p q ks ky vs vy =
    let s = pair-send K V ks vs in
    let y = pair-sync K V ky vy in
    let root = heap.Arc-sync (Tree.the_row (Tuple (K ∷ V ∷ []))) (Tree-send _ s y) (Tree-sync _ s y) in
    view_sync _ _ _ _ _ (declared_sync (Map.TheInside.the_type K V o p q) (heap.sync, (root, tt)))

Covers-send : IsSend Covers.the_row
Covers-send = search (sendable, Map-send) depth 60 fits 10000

Covers-sync : IsSync Covers.the_row
Covers-sync = search (sendable, Map-sync) depth 60 fits 10000

Facts-send : IsSend Facts.the_row
Facts-send = search (sendable, heap.crosses, Map-send, datom.the_send, datom.the_sync) depth 60 fits 10000

Facts-sync : IsSync Facts.the_row
Facts-sync = search (sendable, heap.crosses, Map-sync, datom.the_send, datom.the_sync) depth 60 fits 10000

Names-send : IsSend Names.the_row
Names-send = search (sendable, heap.crosses, Map-send, Map-sync, name.the_send, name.the_sync) depth 60 fits 10000

Names-sync : IsSync Names.the_row
Names-sync = search (sendable, heap.crosses, Map-send, Map-sync, name.the_send, name.the_sync) depth 60 fits 10000

Tables-send : IsSend Tables.the_row
Tables-send = search (sendable, Map-send, attribute.the_send, attribute.the_sync, Facts-send, Names-send, Covers-send) depth 60 fits 10000

Tables-sync : IsSync Tables.the_row
Tables-sync = search (sendable, Map-sync, attribute.the_send, attribute.the_sync, Facts-sync, Names-sync, Covers-sync) depth 60 fits 10000

Schema-send : IsSend Schema.the_row
Schema-send = search (sendable, heap.crosses, Tables-send, Tables-sync) depth 20

Schema-sync : IsSync Schema.the_row
Schema-sync = search (sendable, heap.crosses, Tables-send, Tables-sync) depth 20

Recent-send : IsSend (Recent.the_field).row
Recent-send = search (sendable, Schema-send, Live-send) depth 20

Recent-sync : IsSync (Recent.the_field).row
Recent-sync = search (sendable, Schema-sync, Live-sync) depth 20

Older-send : IsSend Older.the_row
Older-send = search (sendable, roots.the_field_send, Covers-send) depth 20

Older-sync : IsSync Older.the_row
Older-sync = search (sendable, roots.the_field_sync, Covers-sync) depth 20

SharedOlder-send : IsSend (Shared.the_field Older.the_row).row
SharedOlder-send = Shared-send Older.the_row Older-send Older-sync

SharedOlder-sync : IsSync (Shared.the_field Older.the_row).row
SharedOlder-sync = Shared-sync Older.the_row Older-send Older-sync

Parts-send : IsSend Parts.the_row
Parts-send = search (sendable, EntryList-send, Recent-send, SharedOlder-send) depth 20

Parts-sync : IsSync Parts.the_row
Parts-sync = search (sendable, EntryList-sync, Recent-sync, SharedOlder-sync) depth 20

pub Snapshot-send : IsSend Snapshot.the_row
Snapshot-send = search (sendable, heap.crosses, Parts-send, Parts-sync) depth 20

pub Snapshot-sync : IsSync Snapshot.the_row
Snapshot-sync = search (sendable, heap.crosses, Parts-send, Parts-sync) depth 20

Authors-send : IsSend Authors.the_row
Authors-send = search (sendable, heap.crosses, chunks.crosses, links.crosses) depth 60 fits 10000

Core-send : IsSend Core.the_row
Core-send = search (sendable, Snapshot-send, Authors-send) depth 20

Draft-send : IsSend Draft.the_row
Draft-send = search (sendable, heap.crosses, Snapshot-send, Authors-send) depth 60 fits 10000

Letter-row : IsSend Letter.the_row
Letter-row = search (sendable, Snapshot-send) depth 20

Kept-row : (L : RattleType) → IsSend L → IsSend (Kept.the_row L)
Kept-row L log = declared_send (Kept.the_type L) (
  Core-send,
  (
    as_row_send (row_field L) log,
    (
      search sendable depth 30,
      (
        search (sendable, Draft-send) depth 30,
        (
          search heap.crosses
              depth 20,
          tt,
        ),
      ),
    ),
  ),
)

Home-row : (L R : RattleType) (g : Ghosts L.Denot R.Denot) → IsSend L → IsSend (Home.the_row L R g)
Home-row L R g log =
    view_send _ _ _ _ _ (declared_send (Home.TheInside.the_type L R g) (heap.Box-send (Kept.the_row L) (Kept-row L log), tt))

Option-send : (T : RattleType) → IsSend T → IsSend (Option.the_row T)
Option-send T s = search sendable depth 30

Option-sync : (T : RattleType) → IsSync T → IsSync (Option.the_field T).row
Option-sync T y = search sendable depth 30

-- one or none, under a lock
Locked-sync : (T : RattleType) → IsSend T → IsSync (Mutex.the_row (Option.the_row T))
Locked-sync T s = let inside = Option-send T s in search (heap.crosses, inside) depth 20

Shown-send : IsSend Shown.the_row
Shown-send = search (sendable, Snapshot-send) depth 20

Laid-send : (R : RattleType) → IsSend R → IsSend (Laid.the_row R)
Laid-send R made = declared_send (Laid.the_type R) (search sendable depth 20, (as_row_send (row_field R) made, tt))

-- sessions show each other values and records under locks, so their tray is shared if records may be sent
Tray-sync : (R : RattleType) → IsSend R → IsSync (Tray.the_row R)
Tray-sync R made =
    let shown = as_row_sync (Mutex.the_field (Option.the_row Shown.the_row)) (Locked-sync Shown.the_row Shown-send) in
    let laid = as_row_sync (Mutex.the_field (Option.the_row (Laid.the_row R))) (Locked-sync (Laid.the_row R) (Laid-send R made)) in
    declared_sync (Tray.the_type R) (search heap.crosses depth 20, (search heap.crosses depth 20, (shown, (laid, (laid, tt)))))

-- the connection is shared, whatever its log, if that and its records may be sent
pub Conn-sync : (L R : RattleType) (g : Ghosts L.Denot R.Denot) → IsSend L → IsSend R → IsSync (Conn.the_row L R g)
Conn-sync L R g log made =
    let shared = board.the_sync (Home.the_row L R g) Letter.the_row Entry.the_row L unit (homes L R g no_dict no_dict no_dict) mailed
    letters (Home-row L R g log) Letter-row in
    let tray = as_row_sync (Option.the_field (Tray.the_row R)) (Option-sync (Tray.the_row R) (Tray-sync R made)) in
    declared_sync (Conn.the_type L R g) (
      handle.the_sync,
      (shared, (bell.the_sync, (tray, (search sendable, tt)))),
    )

Seat-row : IsSend Seat.the_row
Seat-row = declared_send Seat.the_type (board_seat.the_send, (Snapshot-send, tt))

Desk-send : (ℓ : NamedLft) (L R : RattleType) (g : Ghosts L.Denot R.Denot) → IsSend L → IsSend R → IsSend (ConnDesk.the_row ℓ L R g)
Desk-send ℓ L R g log made = let conn = Conn-sync L R g log made in
    declared_send (ConnDesk.the_type ℓ L R g) (search (sendable, conn) depth 20, (Seat-row, tt))

-- the worker goes to a thread with its seat and its trees, if the disk of their store may be sent
Trees-send : (D : RattleType) (g : DiskGhosts D.Denot) → IsSend D → IsSend (Trees.the_row D g)
Trees-send D g disk =
    declared_send (Trees.the_type D g) (base.the_send, (search (sendable, base.the_send) depth 20, (store.the_send D g disk, tt)))

pub Worker-send : (D : RattleType) (g : DiskGhosts D.Denot) → IsSend D → IsSend (Worker.the_row D g)
Worker-send D g disk = declared_send (Worker.the_type D g) (Seat-row, (Trees-send D g disk, (ended.the_send, tt)))

-- a session is sent with its desk, if the log with its records, its source and its sink may be
pub Job-send : (ℓ : NamedLft) (I O L R : RattleType) (g : Ghosts L.Denot R.Denot) → IsSend I → IsSend O → IsSend L → IsSend R
    → IsSend (Job.the_row ℓ I O L R g)
Job-send ℓ I O L R g source sink log made =
    declared_send (Job.the_type ℓ I O L R g) (Desk-send ℓ L R g log made, (out.the_send I O source sink, tt))
