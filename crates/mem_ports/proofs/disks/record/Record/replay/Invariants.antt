use Rattle.std.proofs.Common.{◌≤◌, vec_len, vec_capacity}
use Rattle.mem_ports.proofs.Replays.{IsReplayed}
use Rattle.mem_ports.proofs.disks.record.Record.replay.Given as goal

abbrev pub invariant-loop-step : goal.invariant-loop-step
invariant-loop-step l =
    IsReplayed l.cuts l.self-inside.steps.items l.self-inside.written.items l.self-inside.room l.initial.file.items l.initial.image.items
    l.step-index l.next l.unsynced l.file.items l.image.items
    × (vec_len l.file ≤ l.self-inside.room) × (l.self-inside.room ≤ vec_capacity l.file) × (vec_len l.image ≤ l.self-inside.room)
    × (l.self-inside.room ≤ vec_capacity l.image)
