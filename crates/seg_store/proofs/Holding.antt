-- Roots as they are held, where not all leaves are wanted.
use Rattle.std.proofs.Common.{◌≡◌, List, [], ◌∷◌, ◌++◌, map, refl, ap, subst, inl, inr}
use Rattle.std.specs.Prelude.{Contains, All}
use Rattle.seg_codec.proofs.Among.{All-made, no_member, member_cases}
use Rattle.log_model.specs.Nodes.{Nodes, Roots as FileRoots, MergeRecord, ids_in}
use Rattle.log_model.specs.Kept.{KeptRoot, with_nodes}
use Rattle.seg_codec.specs.declared.wanted.Wanted.{Wanted}
use Rattle.seg_codec.specs.declared.wanted.Wanted.TheVariants.{Every}
use Rattle.seg_codec.specs.Trees.{AreTreesOf}
use Rattle.seg_codec.specs.Wanted.{held_nodes}
use Rattle.seg_codec.proofs.Held.{held_ids}
use Rattle.seg_codec.proofs.Kept.{trees_later}
use Rattle.seg_codec.proofs.Wholes.{every_wanted}
use Rattle.seg_store.specs.declared.loads.KeptTrees.{KeptTrees}
use Rattle.seg_store.specs.Loads.{kept_of}
use Rattle.seg_store.specs.Finding.{IsHeld, AreHeld}

-- the ids are those of all nodes
pub held_ids_in : (wanted : Wanted) (nodes : Nodes) → ids_in (held_nodes wanted nodes) ≡ ids_in nodes
held_ids_in wanted nodes = ap (λ ids. ids ++ map (λ d. d.id) nodes.directories) (held_ids wanted nodes.leaves)

module _ (wanted : Wanted) (nodes : Nodes) where
  pub held_more : (roots : List KeptRoot) (kept : List KeptTrees) (root : KeptRoot) (k : KeptTrees)
      → AreHeld wanted nodes roots kept → IsHeld wanted nodes root k → AreHeld wanted nodes (roots ++ root ∷ []) (kept ++ k ∷ [])
  held_more [] [] root k are here = (here, tt)
  held_more [] (other ∷ kept) root k are here = absurd are
  held_more (first ∷ roots) [] root k are here = absurd are
  held_more (first ∷ roots) (other ∷ kept) root k are here = (are.0, held_more roots kept root k are.1 here)

  -- over later nodes
  pub held_over : (merge : MergeRecord) (roots : List KeptRoot) (kept : List KeptTrees) → AreHeld wanted nodes roots kept
      → AreHeld wanted (with_nodes nodes merge) roots kept
  held_over merge [] [] are = tt
  held_over merge [] (k ∷ kept) are = absurd are
  held_over merge (root ∷ roots) [] are = absurd are
  held_over merge (root ∷ roots) (k ∷ kept) are = (
    (λ all. let was = are.0 all in (was.0, (was.1.0, trees_later nodes merge was.1.0 k.roots was.1.1))),
    held_over merge roots kept are.1,
  )

  -- the newest one
  pub newest_held : (roots : List KeptRoot) (front : List KeptTrees) (k : KeptTrees) → AreHeld wanted nodes roots (front ++ k ∷ [])
      → (older : List KeptRoot) × (root : KeptRoot) × (roots ≡ older ++ root ∷ []) × IsHeld wanted nodes root k
  newest_held [] [] k are = absurd are
  newest_held [] (other ∷ front) k are = absurd are
  newest_held (root ∷ []) [] k are = ([], root, refl, are.0)
  newest_held (root ∷ next ∷ roots) [] k are = absurd are.1
  newest_held (root ∷ roots) (other ∷ front) k are =
      let rest = newest_held roots front k are.1 in (root ∷ rest.0, rest.1, ap (λ l. root ∷ l) rest.2, rest.3)

-- where all are wanted, all roots are there
module _ (nodes : Nodes) where
  pub every_root : (roots : List KeptRoot) (kept : List KeptTrees) → AreHeld Every nodes roots kept → map kept_of kept ≡ roots
  every_root [] [] are = refl
  every_root [] (k ∷ kept) are = absurd are
  every_root (root ∷ roots) [] are = absurd are
  every_root (root ∷ roots) (k ∷ kept) are =
      let here = (are.0 (every_wanted k.roots)).0 in
      let rest = every_root roots kept are.1 in
      λ i. here i ∷ rest i

  one_there : (roots : List KeptRoot) (kept : List KeptTrees) → AreHeld Every nodes roots kept → (k : KeptTrees) → Contains kept k
      → (ids : FileRoots) × AreTreesOf nodes ids k.roots
  one_there [] [] are k member = absurd (no_member k member)
  one_there [] (other ∷ kept) are k member = absurd are
  one_there (root ∷ roots) [] are k member = absurd are
  one_there (root ∷ roots) (other ∷ kept) are k member =
      elim (member_cases other k kept member) [
        | inl same ↦ subst (λ (x : KeptTrees). (ids : FileRoots) × AreTreesOf nodes ids x.roots) same
            (are.0 (every_wanted other.roots)).1
        | inr later ↦ one_there roots kept are.1 k later
      ]

  pub every_there : (roots : List KeptRoot) (kept : List KeptTrees) → AreHeld Every nodes roots kept
      → All (λ (k : KeptTrees). (ids : FileRoots) × AreTreesOf nodes ids k.roots) kept
  every_there roots kept are = All-made (λ (k : KeptTrees). (ids : FileRoots) × AreTreesOf nodes ids k.roots) kept (one_there roots kept are)
