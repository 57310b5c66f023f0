-- A plan as a list of pieces.
-- This project's own choice.
use Rattle.std.specs.Prelude.{List, [], ◌∷◌, flat_map}
use Rattle.std.specs.Arc.{arc_value}
use Rattle.fb_values.specs.declared.facts.Datom.{Datom}
use Rattle.seg_tree.specs.Nodes.{LeafNode}
use Rattle.seg_merge.specs.Plans.{Planned}
use Rattle.seg_merge.specs.declared.plan.Piece.{Piece}
use Rattle.seg_merge.specs.declared.plan.Piece.TheVariants.{Kept, New}

abbrev pub piece_datoms : Piece → List Datom
piece_datoms (Kept leaf) = (arc_value leaf).datoms
piece_datoms (New datoms) = datoms.items

abbrev pub piece_kept : Piece → List LeafNode
piece_kept (Kept leaf) = arc_value leaf ∷ []
piece_kept (New datoms) = []

abbrev pub planned : List Piece → Planned
planned pieces = record { datoms = flat_map piece_datoms pieces; kept = flat_map piece_kept pieces }
