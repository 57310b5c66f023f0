-- The leaves that a plan keeps.
use Rattle.std.proofs.Common.{◌≡◌, List, [], ◌∷◌, refl, sym, ◌∙◌, subst, inl, inr}
use Rattle.std.specs.Prelude.{Contains, flat_map}
use Rattle.std.specs.Arc.{arc_value}
use Rattle.std.specs.declared.sync.Arc.{Arc}
use Rattle.std.specs.declared.alloc.Global.{Global}
use Rattle.std.proofs.lemmas.List.Elements.{Contains-append_left, Contains-append_right}
use Rattle.live_index.proofs.Members.{contains-cons, contains_head, contains_none}
use Rattle.seg_tree.specs.declared.nodes.Leaf.{Leaf}
use Rattle.seg_merge.specs.Pieces.{piece_kept}
use Rattle.seg_merge.specs.declared.plan.Piece.{Piece}
use Rattle.seg_merge.specs.declared.plan.Piece.TheVariants.{Kept}

pub kept_contains : (pieces : List Piece) (piece : Piece) (leaf : Arc Leaf Global) → Contains pieces piece → piece ≡ Kept leaf
    → Contains (flat_map piece_kept pieces) (arc_value leaf)
kept_contains [] piece leaf there is = absurd (contains_none piece there)
kept_contains (p ∷ pieces) piece leaf there is =
    elim (contains-cons p pieces piece there) [
      | inl same ↦
          Contains-append_left (piece_kept p)
          (flat_map piece_kept pieces) (arc_value leaf) (subst (λ (q : Piece). Contains (piece_kept q) (arc_value leaf)) (sym (same ∙ is))
          (contains_head (arc_value leaf) [] (arc_value leaf) refl))
      | inr behind ↦
          Contains-append_right (piece_kept p) (flat_map piece_kept pieces) (arc_value leaf) (kept_contains pieces piece leaf behind is)
    ]
