use Rattle.std.proofs.Common.{◌∙◌}
use Rattle.seg_tree.specs.Nodes.{tree_datoms}
use Rattle.fb_index.specs.Sides.{whole}
use Rattle.fb_index.proofs.Merging.{upto_from}
use Rattle.fb_index.proofs.sides.Sides.led.Goals as goal

pub loop-datom-init : goal.loop-datom-init
loop-datom-init c =
    let self = c.args.self.now in
    rw c.new-found.ensures.items
    (c.walk-walk.ensures ∙ upto_from c.args.probe.now (whole self.extent self.order (tree_datoms self.tree.now) self.live.now))
