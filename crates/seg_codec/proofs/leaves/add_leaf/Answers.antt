use Rattle.std.proofs.Common.{ap, ◌∙◌}
use Rattle.log_model.specs.Nodes.{with_leaf}
use Rattle.seg_codec.specs.Trees.{file_leaf}
use Rattle.seg_codec.proofs.leaves.add_leaf.Goals as goal

pub returns : goal.returns
returns c = (
  file_leaf c.in_ok-leaf.leaf,
  c.in_ok-add_leaf.ensures.added
      ∙ ap (with_leaf c.args.nodes.now) (ap file_leaf c.in_ok-new.ensures.ok ∙ c.in_ok-leaf-2.ensures.held),
  c.in_ok-leaf.ensures.gives,
)
