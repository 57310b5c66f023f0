use Rattle.std.proofs.Common.{◌≡◌, ◌≤◌, ◌-◌, ◌++◌, ◌∷◌, [], ℕ, List, length, map, drop}
use Rattle.std.specs.Prelude.{nat_eq, All, Contains}
use Rattle.std.specs.List.{IsDistinct}
use Rattle.std.specs.Arc.{arc_value}
use Rattle.log_model.specs.Fields.{that_fits, read_u64}
use Rattle.log_model.specs.Nodes.{is_leaf_id}
use Rattle.log_model.specs.Merges.{several_over}
use Rattle.seg_tree.specs.Nodes.{LeafNode}
use Rattle.seg_tree.specs.Ids.{leaf_ids}
use Rattle.seg_codec.specs.Trees.{file_leaf}
use Rattle.seg_codec.proofs.SeveralOver.{with_front}
use Rattle.seg_codec.proofs.directories.get_listed.Given as goal

-- the leaves so far, and what is read behind them, are what is read from the place on
abbrev pub invariant-loop : goal.invariant-loop
invariant-loop l = record {
  within : l.end ≤ length l.bytes;
  len : length l.leaves.items ≡ l.counter;
  there : All (λ (leaf : LeafNode). Contains l.nodes.leaves (file_leaf leaf)) (map arc_value l.leaves.items);
  once : IsDistinct nat_eq (leaf_ids (map arc_value l.leaves.items));
  so_far : with_front (leaf_ids (map arc_value l.leaves.items))
      (several_over (λ (before : List ℕ) behind. that_fits (is_leaf_id l.nodes before) read_u64 behind)
      (λ before leaf. before ++ leaf ∷ []) (leaf_ids (map arc_value l.leaves.items)) (l.count - l.counter) (drop l.end l.bytes))
      ≡ several_over (λ (before : List ℕ) behind. that_fits (is_leaf_id l.nodes before) read_u64 behind)
      (λ before leaf. before ++ leaf ∷ []) [] l.count (drop l.at l.bytes);
}
