use Rattle.std.proofs.Common.{◌≡◌, ◌≤◌, ◌+◌, ◌++◌, replicate, vec_len, vec_capacity}
use Rattle.mem_ports.proofs.disks.place.fill_to.Given as goal

abbrev pub invariant-loop : goal.invariant-loop
invariant-loop l =
    (l.file.items ≡ l.initial.file.items ++ replicate l.counter 0) × (vec_len l.file ≡ vec_len l.initial.file + l.counter)
    × (vec_capacity l.initial.file ≤ vec_capacity l.file)
