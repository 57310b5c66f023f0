use Rattle.std.proofs.Common.{◌++◌, ◌∷◌, [], sym, ap, subst, ◌∙◌, append_assoc}
use Rattle.std.specs.List.{list_any}
use Rattle.std.proofs.lemmas.Bool.{or_parts, not_from_false}
use Rattle.log_model.specs.Nodes.{is_among}
use Rattle.seg_tree.specs.Ids.{leaf_ids}
use Rattle.seg_codec.proofs.Among.{AreOnce}
use Rattle.seg_codec.proofs.Reaching.{may_reach}
use Rattle.seg_codec.proofs.nodes.reach_directory.Goals as goal

pub add-requires-clause-new : goal.add-requires-clause-new
add-requires-clause-new c =
    let reached = c.args.reached.now in
    let d = c.args.directory.now in
    ap (is_among reached) c.id.ensures ∙ (or_parts (is_among reached d.id) (list_any (is_among reached) (leaf_ids d.leaves))
    (sym c.is_reached.ensures ∙ c.if-is_reached.false)).0

pub reach_leaves-requires : goal.reach_leaves-requires
reach_leaves-requires c =
    let reached = c.args.reached.now in
    let d = c.args.directory.now in
    subst (λ l. AreOnce (l ++ leaf_ids d.leaves)) (sym (c.in_ok-add.ensures.added ∙ ap (λ n. reached ++ n ∷ []) c.id.ensures))
    (may_reach reached (leaf_ids d.leaves) d.id c.len.ensures.distinct c.requires.once (sym c.is_reached.ensures ∙ c.if-is_reached.false))

pub returns-clause-fits : goal.returns-clause-fits
returns-clause-fits c = sym (not_from_false _ (sym c.is_reached.ensures ∙ c.if-is_reached.false))

pub returns-clause-reached : goal.returns-clause-reached
returns-clause-reached c =
    let reached = c.args.reached.now in
    let d = c.args.directory.now in
    λ _. c.in_ok-reach_leaves.ensures ∙ ap (λ l. l ++ leaf_ids d.leaves) (c.in_ok-add.ensures.added ∙ ap
    (λ n. reached ++ n ∷ []) c.id.ensures) ∙ append_assoc reached (d.id ∷ []) (leaf_ids d.leaves)
