use Rattle.std.proofs.Common.{◌≡◌, true, map, drop, sym, ap, ◌∙◌}
use Rattle.std.specs.Arc.{arc_value}
use Rattle.std.proofs.lemmas.Bool.{and_from, not_from_false}
use Rattle.log_model.specs.Fields.{found, read_u64}
use Rattle.log_model.specs.Nodes.{Leaf, is_among, is_leaf_id}
use Rattle.seg_tree.specs.Nodes.{LeafNode}
use Rattle.seg_tree.specs.Ids.{leaf_ids}
use Rattle.seg_codec.specs.Trees.{file_leaf}
use Rattle.seg_codec.proofs.Among.{mapped_among}
use Rattle.seg_codec.proofs.SeveralOver.{fits_found}
use Rattle.seg_codec.proofs.directories.get_leaf.Goals as goal
use Rattle.seg_codec.proofs.directories.get_leaf.Goals.{In_ok-clone}

-- the id is that of a leaf which is not listed yet
fits : (c : In_ok-clone) → is_leaf_id c.args.nodes.now (leaf_ids (map arc_value c.args.before.now.items)) c.in_ok-id.id ≡ true
fits c =
    let leaf = arc_value {X = LeafNode} c.in-Some.leaf.now in
    let found_one = c.in-Some.ensures.some in
    and_from _ _
    (ap (is_among (map (λ (l : Leaf). l.id) c.args.nodes.now.leaves)) (sym found_one.0)
    ∙ mapped_among (λ (l : Leaf). l.id) c.args.nodes.now.leaves (file_leaf leaf) found_one.1)
    (not_from_false _ (sym c.is_listed.ensures ∙ c.if-is_listed.false))

id_is : (c : In_ok-clone) → (arc_value {X = LeafNode} c.in_ok-clone.field-0).id ≡ c.in_ok-id.id
id_is c = ap (λ (l : LeafNode). l.id) c.in_ok-clone.ensures.cases ∙ c.in-Some.ensures.some.0

pub returns-clause-gives : goal.returns-clause-gives
returns-clause-gives c =
    let at = (goal.at.returns-clause-gives c).In_ok-clone in (
      c.in_ok-id.ensures.0,
      fits_found (is_leaf_id c.args.nodes.now (leaf_ids (map arc_value c.args.before.now.items))) read_u64
          (drop c.args.at c.args.bytes.now) c.in_ok-id.id (drop c.in_ok-id.next c.args.bytes.now) c.in_ok-id.ensures.1 (fits at)
          ∙ ap (λ id. found id (drop c.in_ok-id.next c.args.bytes.now)) (sym (id_is at)),
    )

pub returns-clause-new : goal.returns-clause-new
returns-clause-new c =
    let at = (goal.at.returns-clause-new c).In_ok-clone in
    ap (is_leaf_id c.args.nodes.now (leaf_ids (map arc_value c.args.before.now.items))) (id_is at) ∙ fits at
