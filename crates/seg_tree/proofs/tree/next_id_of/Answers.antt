use Rattle.std.proofs.Common.{◌≡◌, ◌<◌, length, ap, ◌∙◌, arith}
use Rattle.std.specs.Arc.{arc_value}
use Rattle.seg_tree.specs.Nodes.{DirectoryNode}
use Rattle.seg_tree.specs.Ids.{directory_ids, next_above}
use Rattle.seg_tree.proofs.Making.{next_above_directory}
use Rattle.seg_tree.proofs.tree.next_id_of.Goals as goal

pub loop-directory-preserved : goal.loop-directory-preserved
loop-directory-preserved c =
    let there : c.loop-directory.directory-index < length c.deref-directory-items.result.now = omega arith in
    let within = rw c.deref-directory-items.ensures.value at there in
    let is = rw c.deref-directory-items.ensures.value at c.directory-item.is in
    let more =
    next_above_directory arc_value c.args.directories.now.items c.loop-directory.directory-index c.directory-item.result within is in
    let own : c.next_id.result ≡ next_above (directory_ids (arc_value c.directory-item.result)) =
    c.next_id.ensures.next ∙ ap (λ (d : DirectoryNode). next_above (directory_ids d)) c.deref.ensures in
    record {
      is = omega (arith, more, own, c.max-next.ensures, c.loop-directory.invariant.is);
      small = omega (arith, c.next_id.ensures.small, c.max-next.ensures, c.loop-directory.invariant.small);
    }
