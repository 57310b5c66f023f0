-- Leaves that are listed one after another.
use Rattle.std.proofs.Common.{◌≡◌, Bool, true, false, not, List, [], ◌∷◌, ◌++◌, map, refl, sym, ap, subst, ◌∙◌}
use Rattle.std.proofs.lemmas.Bool.{true≢false}
use Rattle.std.proofs.lemmas.List.{map-append}
use Rattle.std.specs.Prelude.{All, Contains}
use Rattle.std.proofs.lemmas.List.Elements.{All-nil}
use Rattle.log_model.specs.Nodes.{Nodes}
use Rattle.seg_tree.specs.Nodes.{LeafNode}
use Rattle.seg_tree.specs.Ids.{leaf_ids}
use Rattle.seg_codec.specs.Trees.{file_leaf}
use Rattle.seg_codec.proofs.Among.{AreOnce, once_none}

pub is_not : (b : Bool) → not b ≡ true → b ≡ false
is_not false is = refl
is_not true is = absurd (true≢false (sym is))

pub no_leaves : {X : Type 0} (now : X → LeafNode) (items : List X) → items ≡ [] → (nodes : Nodes)
    → All (λ (leaf : LeafNode). Contains nodes.leaves (file_leaf leaf)) (map now items) × AreOnce (leaf_ids (map now items))
    × (leaf_ids (map now items) ≡ [])
no_leaves now items none nodes = (
  subst (λ l. All (λ (leaf : LeafNode). Contains nodes.leaves (file_leaf leaf)) (map now l)) (sym none)
      (All-nil (λ (leaf : LeafNode). Contains nodes.leaves (file_leaf leaf))),
  subst (λ l. AreOnce (leaf_ids (map now l))) (sym none) once_none,
  ap (λ l. leaf_ids (map now l)) none,
)

module _ {X : Type 0} (now : X → LeafNode) (items pushed : List X) (x : X) (is : pushed ≡ items ++ x ∷ []) where
  pub leaves_pushed : map now pushed ≡ map now items ++ now x ∷ []
  leaves_pushed = ap (map now) is ∙ map-append now items (x ∷ [])

  pub ids_pushed : leaf_ids (map now pushed) ≡ leaf_ids (map now items) ++ (now x).id ∷ []
  ids_pushed = ap leaf_ids leaves_pushed ∙ map-append (λ (l : LeafNode). l.id) (map now items) (now x ∷ [])
