use Rattle.std.proofs.Common.{◌-◌, ◌*◌, ap, length, map, arith}
use Rattle.std.specs.Arc.{arc_value}
use Rattle.std.proofs.lemmas.List.{length-map}
use Rattle.std.proofs.Math.ListN.{drop_of_length-le}
use Rattle.seg_tree.specs.Nodes.{DirectoryNode}
use Rattle.seg_tree.specs.Ids.{node_ids}
use Rattle.seg_store.proofs.NodeCounts.{nodes_step}
use Rattle.seg_store.proofs.room.without_two_each.Goals as goal

pub loop-directory-init : goal.loop-directory-init
loop-directory-init c = ap (λ t. c.args.count - 2 * length (node_ids t)) c.directories-directory-items.ensures

pub loop-directory-preserved : goal.loop-directory-preserved
loop-directory-preserved c =
    let step = nodes_step arc_value c.directories-directory-items.result.now c.loop-directory.directory-index c.directory-item.result
    c.loop-directory-test.true c.directory-item.is in
    let node = ap (λ (d : DirectoryNode). length d.leaves) c.deref.ensures in
    let own = ap length c.leaves.ensures.leaves in
    let many = length-map c.leaves.result.now arc_value in
    omega (arith, c.loop-directory.invariant, step, node, own, many, c.saturating_sub-left.ensures)

pub returns : goal.returns
returns c =
    let nothing = ap (λ l. length (node_ids (map arc_value l)))
    (drop_of_length-le c.directories-directory-items.result.now c.loop-directory-test.false) in
    omega (arith, c.loop-directory.invariant, nothing)
