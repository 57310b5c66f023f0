use Rattle.std.proofs.Common.{map, take, sym, subst, ap, ◌∙◌}
use Rattle.std.specs.Arc.{arc_value}
use Rattle.std.proofs.lemmas.List.{take-map}
use Rattle.log_model.specs.Nodes.{Nodes}
use Rattle.seg_tree.specs.Nodes.{LeafNode, DirectoryNode}
use Rattle.seg_codec.specs.Trees.{file_leaf, file_directory}
use Rattle.seg_codec.specs.InFile.{AreNodes, AreWhole}
use Rattle.seg_codec.proofs.InNodes.{cut_nodes}
use Rattle.seg_codec.proofs.nodes.Nodes.cut.Goals as goal

pub invariant_of-self : goal.invariant_of-self
invariant_of-self c =
    let n = c.self.inside in
    let a = c.args.counts.leaves in
    let b = c.args.counts.directories in
    let whole = subst (λ (nodes : Nodes). AreWhole (record { leaves = take a nodes.leaves; directories = take b nodes.directories }))
    (sym c.self.view_is) c.requires in
    let made = cut_nodes (map arc_value n.leaves.items)
    (map arc_value n.directories.items) n.leaf_ids n.directory_ids c.self.invariant a b c.len.ensures.distinct whole in
    let leaves = ap (map (arc_value {X = LeafNode})) c.truncate.ensures.items
    ∙ sym (take-map (arc_value {X = LeafNode}) a n.leaves.items) in
    let directories = ap (map (arc_value {X = DirectoryNode})) c.truncate-2.ensures.items
    ∙ sym (take-map (arc_value {X = DirectoryNode}) b n.directories.items) in
    subst (λ ls. AreNodes ls (map arc_value c.truncate-2.new.self.items) c.cut.new.self c.cut-2.new.self) (sym leaves)
    (subst (λ ds. AreNodes (take a (map arc_value n.leaves.items)) ds c.cut.new.self c.cut-2.new.self) (sym directories)
    (subst (λ is. AreNodes (take a (map arc_value n.leaves.items)) (take b (map arc_value n.directories.items)) is c.cut-2.new.self)
    (sym c.cut.ensures)
    (subst (λ is. AreNodes (take a (map arc_value n.leaves.items)) (take b (map arc_value n.directories.items)) (take a n.leaf_ids) is)
    (sym c.cut-2.ensures) made)))

pub returns : goal.returns
returns c =
    let n = c.self.inside in
    let a = c.args.counts.leaves in
    let b = c.args.counts.directories in
    let leaves =
    ap (λ l. map file_leaf (map (arc_value {X = LeafNode}) l)) c.truncate.ensures.items
    ∙ ap (map file_leaf) (sym (take-map (arc_value {X = LeafNode}) a n.leaves.items))
    ∙ sym (take-map file_leaf a (map arc_value n.leaves.items))
    ∙ ap (λ (nodes : Nodes). take a nodes.leaves) c.self.view_is in
    let directories =
    ap (λ l. map file_directory (map (arc_value {X = DirectoryNode}) l)) c.truncate-2.ensures.items
    ∙ ap (map file_directory) (sym (take-map (arc_value {X = DirectoryNode}) b n.directories.items))
    ∙ sym (take-map file_directory b (map arc_value n.directories.items))
    ∙ ap (λ (nodes : Nodes). take b nodes.directories) c.self.view_is in
    λ i. record { leaves = leaves i; directories = directories i }
