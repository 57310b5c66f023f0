use Rattle.std.proofs.Common.{◌≡◌, ◌+◌, ◌≤◌, ◌++◌, ◌∷◌, map, length, Some}
use Rattle.std.specs.Prelude.{vec_len, vec_capacity}
use Rattle.std.specs.Vec.Iter.{into_iter_items, into_iter_len}
use Rattle.board_rule.specs.declared.board.SlotValue.TheVariants.{Core}
use Rattle.board_rule.specs.Board.{mailed_as}
use Rattle.board_rule.proofs.ends.lay_slots.Given as goal

abbrev pub invariant-loop-snapshot : goal.invariant-loop-snapshot
invariant-loop-snapshot g l =
    (l.slots.items ++ map mailed_as (into_iter_items l.mailed) ≡ Core (Some l.fn.home) ∷ map mailed_as (into_iter_items l.initial.mailed))
    × (vec_len l.slots + into_iter_len l.mailed ≤ vec_capacity l.slots)
    × (length (into_iter_items l.mailed) ≡ into_iter_len l.mailed)

abbrev pub decreases-loop-snapshot : goal.decreases-loop-snapshot
decreases-loop-snapshot g l = into_iter_len l.mailed
