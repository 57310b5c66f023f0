use Rattle.std.proofs.Common.{◌≡◌, true, [], ◌∷◌, ◌++◌, length, map, take, arith, sym, subst, ap, ◌∙◌}
use Rattle.std.specs.Prelude.{All, Contains}
use Rattle.std.specs.Arc.{arc_value}
use Rattle.std.proofs.Math.Seq.{take-append_seam}
use Rattle.std.proofs.lemmas.List.{map-append}
use Rattle.log_model.specs.Nodes.{Nodes, is_among, is_new_id}
use Rattle.seg_tree.specs.Nodes.{LeafNode, DirectoryNode}
use Rattle.seg_codec.specs.Trees.{file_leaf}
use Rattle.seg_codec.specs.InFile.{AreNodes}
use Rattle.seg_codec.proofs.InNodes.{new_parts, with_one_directory}
use Rattle.seg_codec.proofs.nodes.Nodes.add_directory.Goals as goal

pub add-requires-clause-new : goal.add-requires-clause-new
add-requires-clause-new c =
    let n = c.self.inside in
    let d = arc_value {X = DirectoryNode} c.args.directory in
    let new = subst (λ (nodes : Nodes). is_new_id nodes d.id ≡ true) (sym c.self.view_is) c.requires.new in
    ap (is_among n.directory_ids) (c.id-id.ensures ∙ ap (λ (x : DirectoryNode). x.id) c.deref.ensures)
    ∙ (new_parts (map arc_value n.leaves.items) (map arc_value n.directories.items) n.leaf_ids n.directory_ids c.self.invariant d.id new).1

pub invariant_of-self-in-Ok : goal.invariant_of-self-in-Ok
invariant_of-self-in-Ok c =
    let n = c.self.inside in
    let d = arc_value {X = DirectoryNode} c.args.directory in
    let new = subst (λ (nodes : Nodes). is_new_id nodes d.id ≡ true) (sym c.self.view_is) c.requires.new in
    let there = subst (λ (nodes : Nodes). All (λ (l : LeafNode). Contains nodes.leaves (file_leaf l)) d.leaves)
    (sym c.self.view_is) c.requires.there in
    let directories = ap (map (arc_value {X = DirectoryNode})) c.in_ok-push.ensures.items
    ∙ map-append (arc_value {X = DirectoryNode}) n.directories.items (c.args.directory ∷ []) in
    let ids = c.in-Ok.ensures.added ∙ ap (λ id. n.directory_ids ++ id ∷ []) (c.id-id.ensures ∙ ap (λ
    (x : DirectoryNode). x.id) c.deref.ensures) in
    subst (λ ds. AreNodes (map arc_value n.leaves.items) ds n.leaf_ids c.add.new.self) (sym directories)
    (subst (λ is. AreNodes (map arc_value n.leaves.items) (map arc_value n.directories.items ++ d ∷ []) n.leaf_ids is) (sym ids)
    (with_one_directory (map arc_value n.leaves.items)
    (map arc_value n.directories.items) n.leaf_ids n.directory_ids c.self.invariant d new there c.requires.once))

pub invariant_of-self-in-Err : goal.invariant_of-self-in-Err
invariant_of-self-in-Err c =
    let n = c.self.inside in
    let place : c.len-known.result ≡ length c.self.inside.directories.items = omega
    (arith, c.len-known.ensures, c.self.inside.directories.ok.0) in
    let cut = c.truncate.ensures.items ∙ ap (take c.len-known.result) c.in_ok-push.ensures.items
    ∙ ap (λ k. take k (n.directories.items ++ c.args.directory ∷ [])) place
    ∙ take-append_seam n.directories.items (c.args.directory ∷ []) in
    subst (λ items. AreNodes (map arc_value n.leaves.items) (map arc_value items) n.leaf_ids c.add.new.self) (sym cut)
    (subst (λ is. AreNodes (map arc_value n.leaves.items) (map arc_value n.directories.items) n.leaf_ids is)
    (sym c.in-Err.ensures.unchanged) c.self.invariant)
