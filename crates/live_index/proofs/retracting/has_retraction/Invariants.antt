use Rattle.std.proofs.Common.{◌≡◌, ◌-◌, false, not, take, drop}
use Rattle.std.specs.List.{list_any}
use Rattle.live_index.proofs.retracting.has_retraction.Given as goal

-- the datoms so far are all additions
abbrev pub invariant-loop-number : goal.invariant-loop-number
invariant-loop-number l = list_any (λ d. not d.added) (take (l.number - l.fn.first) (drop l.fn.first l.table)) ≡ false
