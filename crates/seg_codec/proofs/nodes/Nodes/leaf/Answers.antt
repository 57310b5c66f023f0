use Rattle.std.proofs.Common.{◌≡◌, false, map, subst, ◌∙◌}
use Rattle.std.specs.Prelude.{Contains}
use Rattle.std.specs.Arc.{arc_value}
use Rattle.log_model.specs.Nodes.{Leaf, Nodes, is_among}
use Rattle.seg_tree.specs.Nodes.{LeafNode}
use Rattle.seg_codec.specs.Trees.{file_leaf}
use Rattle.seg_codec.proofs.InNodes.{leaf_among, leaf_id_at, leaf_there_at}
use Rattle.seg_codec.proofs.nodes.Nodes.leaf.Goals as goal

pub returns-in-None-clause-none : goal.returns-in-None-clause-none
returns-in-None-clause-none c =
    let n = c.self.inside in
    subst (λ (nodes : Nodes). is_among (map (λ (l : Leaf). l.id) nodes.leaves) c.args.id ≡ false) c.self.view_is
    (leaf_among (map arc_value n.leaves.items) (map arc_value n.directories.items) n.leaf_ids n.directory_ids c.self.invariant c.args.id
    ∙ c.in-None.ensures.none)

pub returns-in-Some-clause-some : goal.returns-in-Some-clause-some
returns-in-Some-clause-some c =
    let n = c.self.inside in
    let found = c.in-Some.ensures.some in (
      leaf_id_at arc_value n.leaves.items c.in-Some.place c.index.result.now
          (map arc_value n.directories.items) n.leaf_ids n.directory_ids c.self.invariant c.args.id found.0 found.1 c.index.ensures,
      subst (λ (nodes : Nodes). Contains nodes.leaves (file_leaf (arc_value {X = LeafNode} c.index.result.now))) c.self.view_is
          (leaf_there_at arc_value n.leaves.items c.in-Some.place c.index.result.now
          (map arc_value n.directories.items) n.leaf_ids n.directory_ids c.self.invariant c.args.id found.0 found.1 c.index.ensures),
    )
