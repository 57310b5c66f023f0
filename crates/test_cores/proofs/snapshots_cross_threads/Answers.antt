use denote.Param.Send.{sendable}
use Rattle.test_cores.proofs.Crossing.{Snapshot-send, Snapshot-sync}
use Rattle.test_cores.proofs.snapshots_cross_threads.Goals as goal

pub crosses_threads-requires-send-T : goal.crosses_threads-requires-send-T
crosses_threads-requires-send-T c κs = search (sendable, Snapshot-send)

pub crosses_threads-requires-sync-T : goal.crosses_threads-requires-sync-T
crosses_threads-requires-sync-T c κs = search (sendable, Snapshot-sync)
