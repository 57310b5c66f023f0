use Rattle.std.proofs.Common.{◌≡◌, true, map, take}
use Rattle.std.specs.List.{list_all}
use Rattle.std.specs.Arc.{arc_value}
use Rattle.seg_tree.specs.Nodes.{LeafNode}
use Rattle.seg_codec.specs.Wanted.{is_wanted}
use Rattle.seg_codec.proofs.wanted.Wanted.has_each.Given as goal

-- each of those before is wanted
abbrev pub invariant-loop-leaf : goal.invariant-loop-leaf
invariant-loop-leaf l =
    list_all (λ (leaf : LeafNode). is_wanted l.self leaf.id) (map arc_value (take l.leaf-index l.leaves.items)) ≡ true
