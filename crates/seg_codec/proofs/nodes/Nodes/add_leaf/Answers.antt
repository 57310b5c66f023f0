use Rattle.std.proofs.Common.{◌≡◌, true, [], ◌∷◌, ◌++◌, length, map, take, arith, sym, subst, ap, ◌∙◌}
use Rattle.std.specs.Arc.{arc_value}
use Rattle.std.proofs.Math.Seq.{take-append_seam}
use Rattle.std.proofs.lemmas.List.{map-append}
use Rattle.log_model.specs.Nodes.{Nodes, is_among, is_new_id}
use Rattle.seg_tree.specs.Nodes.{LeafNode}
use Rattle.seg_codec.specs.InFile.{AreNodes}
use Rattle.seg_codec.proofs.InNodes.{new_parts, with_one_leaf}
use Rattle.seg_codec.proofs.nodes.Nodes.add_leaf.Goals as goal

pub add-requires-clause-new : goal.add-requires-clause-new
add-requires-clause-new c =
    let n = c.self.inside in
    let leaf = arc_value {X = LeafNode} c.args.leaf in
    let new = subst (λ (nodes : Nodes). is_new_id nodes leaf.id ≡ true) (sym c.self.view_is) c.requires in
    ap (is_among n.leaf_ids) (c.id-id.ensures.id ∙ ap (λ (l : LeafNode). l.id) c.deref.ensures)
    ∙ (new_parts (map arc_value n.leaves.items)
    (map arc_value n.directories.items) n.leaf_ids n.directory_ids c.self.invariant leaf.id new).0

pub invariant_of-self-in-Ok : goal.invariant_of-self-in-Ok
invariant_of-self-in-Ok c =
    let n = c.self.inside in
    let leaf = arc_value {X = LeafNode} c.args.leaf in
    let new = subst (λ (nodes : Nodes). is_new_id nodes leaf.id ≡ true) (sym c.self.view_is) c.requires in
    let leaves = ap (map (arc_value {X = LeafNode})) c.in_ok-push.ensures.items
    ∙ map-append (arc_value {X = LeafNode}) n.leaves.items (c.args.leaf ∷ []) in
    let ids = c.in-Ok.ensures.added ∙ ap (λ id. n.leaf_ids ++ id ∷ []) (c.id-id.ensures.id ∙ ap (λ (l : LeafNode). l.id) c.deref.ensures) in
    subst (λ ls. AreNodes ls (map arc_value n.directories.items) c.add.new.self n.directory_ids) (sym leaves)
    (subst (λ is. AreNodes (map arc_value n.leaves.items ++ leaf ∷ []) (map arc_value n.directories.items) is n.directory_ids) (sym ids)
    (with_one_leaf (map arc_value n.leaves.items) (map arc_value n.directories.items) n.leaf_ids n.directory_ids c.self.invariant leaf new))

pub invariant_of-self-in-Err : goal.invariant_of-self-in-Err
invariant_of-self-in-Err c =
    let n = c.self.inside in
    let place : c.len-known.result ≡ length c.self.inside.leaves.items = omega (arith, c.len-known.ensures, c.self.inside.leaves.ok.0) in
    let cut = c.truncate.ensures.items ∙ ap (take c.len-known.result) c.in_ok-push.ensures.items
    ∙ ap (λ k. take k (n.leaves.items ++ c.args.leaf ∷ [])) place ∙ take-append_seam n.leaves.items (c.args.leaf ∷ []) in
    subst (λ items. AreNodes (map arc_value items) (map arc_value n.directories.items) c.add.new.self n.directory_ids) (sym cut)
    (subst (λ is. AreNodes (map arc_value n.leaves.items) (map arc_value n.directories.items) is n.directory_ids)
    (sym c.in-Err.ensures.unchanged) c.self.invariant)
