use Rattle.std.proofs.Common.{◌≡◌}
use Rattle.std.specs.Prelude.{flat_map}
use Rattle.seg_merge.specs.Pieces.{piece_datoms, piece_kept}
use Rattle.seg_merge.proofs.plan.Plan.build.Given as goal

-- the pieces so far are built
abbrev pub invariant-loop-piece : goal.invariant-loop-piece
invariant-loop-piece l =
    l.builder ≡ record { first = l.first; datoms = flat_map piece_datoms l.yielded; kept = flat_map piece_kept l.yielded }
