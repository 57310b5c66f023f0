-- The live index may be sent to other threads and shared with them. Its table has trees, of which a search has to be told.
use denote.Param.Send.{IsSend, IsSync, sendable}
use Rattle.std.proofs.Crossing as heap
use Rattle.fb_values.proofs.facts.Datom.TheSendSync as datom
use Rattle.fb_chunks.proofs.tree.Tree.TheLaws.TheKnot as chunks
use Rattle.fb_chunks.proofs.tails.Link.TheLaws.TheKnot as links
use Rattle.live_runs.specs.contracts.table.Table as Table
use Rattle.live_runs.specs.contracts.runs.Runs as Runs
use Rattle.live_index.specs.contracts.orders.Orders as Orders
use Rattle.live_index.specs.contracts.live.Live as Live

Table-send : IsSend Table.the_row
Table-send = search (sendable, heap.crosses, chunks.crosses, links.crosses, datom.the_send, datom.the_sync) depth 60 fits 10000

Table-sync : IsSync Table.the_row
Table-sync = search (sendable, heap.crosses, chunks.crosses, links.crosses, datom.the_send, datom.the_sync) depth 60 fits 10000

Runs-send : IsSend Runs.the_row
Runs-send = search (sendable, heap.crosses) depth 60 fits 10000

Runs-sync : IsSync Runs.the_row
Runs-sync = search (sendable, heap.crosses) depth 60 fits 10000

Orders-send : IsSend (Orders.the_field).row
Orders-send = search (sendable, Runs-send) depth 20

Orders-sync : IsSync (Orders.the_field).row
Orders-sync = search (sendable, Runs-sync) depth 20

pub Live-send : IsSend Live.the_row
Live-send = search (sendable, heap.crosses, Table-send, Orders-send, Orders-sync) depth 40 fits 10000

pub Live-sync : IsSync Live.the_row
Live-sync = search (sendable, heap.crosses, Table-sync, Orders-send, Orders-sync) depth 40 fits 10000
