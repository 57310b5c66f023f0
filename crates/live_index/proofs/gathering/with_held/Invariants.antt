use Rattle.std.proofs.Common.{◌≡◌, ◌++◌, take}
use Rattle.std.specs.Prelude.{filter}
use Rattle.live_index.specs.Growth.{is_held}
use Rattle.live_index.proofs.gathering.with_held.Given as goal

-- with the held ones of the datoms so far
abbrev pub invariant-loop-datom : goal.invariant-loop-datom
invariant-loop-datom l =
    l.held.items ≡ l.initial.held.items ++ filter (is_held l.covers l.order) (take l.datom-index l.more)
