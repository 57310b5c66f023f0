use Rattle.std.proofs.Common.{◌<◌, ◌^◌, ◌++◌, map, sym, subst, ap, ◌∙◌}
use Rattle.std.specs.Prelude.{All}
use Rattle.std.specs.Arc.{arc_value}
use Rattle.log_model.specs.Nodes.{ids_in}
use Rattle.seg_codec.proofs.Among.{AreOnce}
use Rattle.seg_codec.proofs.InNodes.{held_once, held_ids}
use Rattle.seg_codec.proofs.nodes.Nodes.into_ids.Goals as goal

pub add_all-requires-clause-distinct : goal.add_all-requires-clause-distinct
add_all-requires-clause-distinct c =
    let n = c.self.inside in
    subst (λ l. AreOnce (n.leaf_ids ++ l)) (sym c.as_slice.ensures.value)
    (held_once (map arc_value n.leaves.items) (map arc_value n.directories.items) n.leaf_ids n.directory_ids c.self.invariant
    c.len.ensures.distinct c.as_slice.ensures.distinct)

pub add_all-requires-clause-small : goal.add_all-requires-clause-small
add_all-requires-clause-small c = subst (All (λ id. id < 2 ^ 62)) (sym c.as_slice.ensures.value) c.as_slice.ensures.small

pub returns : goal.returns
returns c =
    let n = c.self.inside in
    c.in_ok-add_all.ensures.added
    ∙ ap (λ l. n.leaf_ids ++ l) c.as_slice.ensures.value
    ∙ held_ids (map arc_value n.leaves.items) (map arc_value n.directories.items) n.leaf_ids n.directory_ids c.self.invariant
    ∙ ap ids_in c.self.view_is
