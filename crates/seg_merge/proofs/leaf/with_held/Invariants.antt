use Rattle.std.proofs.Common.{◌≡◌, ◌++◌, take}
use Rattle.std.specs.Prelude.{filter}
use Rattle.live_index.specs.Growth.{is_held}
use Rattle.seg_merge.proofs.leaf.with_held.Given as goal

-- the held ones of the datoms so far
abbrev pub invariant-loop-datom : goal.invariant-loop-datom
invariant-loop-datom l = l.list.items ≡ l.initial.list.items ++ filter (is_held l.covers l.order) (take l.datom-index l.datoms)
