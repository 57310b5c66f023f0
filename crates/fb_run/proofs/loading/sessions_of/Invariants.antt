use Rattle.std.proofs.Common.{◌≡◌, map}
use Rattle.std.specs.List.{range_with_len}
use Rattle.fb_run.specs.Loading.{supply, room}
use Rattle.fb_run.proofs.loading.sessions_of.Given as goal

-- what the sessions so far have
abbrev pub invariant-loop-number : goal.invariant-loop-number
invariant-loop-number l =
    (map (λ s. s.source) l.sessions.items ≡ map (supply l.count) (range_with_len 0 l.number))
    × (map (λ s. s.sink) l.sessions.items ≡ map room (range_with_len 0 l.number))
