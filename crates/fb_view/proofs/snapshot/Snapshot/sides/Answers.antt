use Rattle.fb_values.specs.declared.indexes.Order.{Order}
use Rattle.seg_tree.specs.Indexes.{tree_in}
use Rattle.seg_tree.specs.Nodes.{tree_datoms}
use Rattle.fb_index.specs.Sides.{AreBeside}
use Rattle.fb_index.specs.declared.sides.Extent.{Extent}
use Rattle.fb_index.specs.declared.sides.Extent.TheVariants.{Said, Held}
use Rattle.fb_view.specs.SnapshotModel.{SnapshotModel, Stands, roots_read}
use Rattle.fb_view.proofs.Present.{said_beside, held_beside}
use Rattle.fb_view.proofs.snapshot.Snapshot.sides.Goals as goal

beside : (k : SnapshotModel) (stands : Stands k) (extent : Extent) (order : Order)
    → AreBeside extent order (tree_datoms (tree_in (roots_read extent k) order)) k.live
beside k stands Said order = said_beside k stands order
beside k stands Held order = held_beside k stands order

pub returns-clause-beside : goal.returns-clause-beside
returns-clause-beside c = beside c.args.self.now c.live.ensures.stands c.args.extent c.args.order
