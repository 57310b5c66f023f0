use Rattle.std.proofs.Common.{◌∷◌, not, sym, ap, ◌∙◌}
use Rattle.std.specs.List.{list_any}
use Rattle.std.specs.Arc.{arc_value}
use Rattle.log_model.specs.Nodes.{is_among}
use Rattle.seg_tree.specs.Nodes.{DirectoryNode}
use Rattle.seg_tree.specs.Ids.{leaf_ids}
use Rattle.seg_codec.proofs.Reaching.{reach_fits}
use Rattle.seg_codec.proofs.nodes.Nodes.reach.Goals as goal

pub returns-in_ok-fits-in-Some-clause-fits : goal.returns-in_ok-fits-in-Some-clause-fits
returns-in_ok-fits-in-Some-clause-fits c =
    let reached = c.args.reached.now in
    c.in_ok-fits-in-Some.ensures.fits
    ∙ ap (λ (d : DirectoryNode). not (list_any (is_among reached) (d.id ∷ leaf_ids d.leaves))) c.deref.ensures
    ∙ sym (reach_fits c.args.self.now reached c.args.id (arc_value {X = DirectoryNode} c.in-Some.directory.now) c.in-Some.ensures.some)
