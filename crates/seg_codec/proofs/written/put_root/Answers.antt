use Rattle.std.proofs.Common.{◌++◌, length, map, ap, ◌∙◌}
use Rattle.std.specs.Arc.{arc_value}
use Rattle.log_model.specs.Fields.{u32_bytes, u64_bytes}
use Rattle.log_model.specs.Nodes.{list_bytes}
use Rattle.seg_tree.specs.Nodes.{DirectoryNode}
use Rattle.seg_codec.specs.Trees.{directory_ids}
use Rattle.seg_codec.proofs.Rows.{written_all, list_written, list_mapped}
use Rattle.seg_codec.proofs.written.put_root.Goals as goal

pub returns : goal.returns
returns c =
    let old = c.args.out.now.items in
    let items = c.directories-directories.result.now in
    list_written (λ d. u64_bytes (arc_value {X = DirectoryNode} d).id) items old c.loop-directory.out.items
    (written_all (λ d. u64_bytes (arc_value {X = DirectoryNode} d).id) items c.loop-directory.directory-index
    (old ++ u32_bytes (length items)) c.loop-directory.out.items c.loop-directory-test.false c.loop-directory.invariant)
    ∙ ap (λ l. old ++ l)
    (list_mapped (λ (d : DirectoryNode). u64_bytes d.id) arc_value items
    ∙ list_mapped u64_bytes (λ (d : DirectoryNode). d.id) (map arc_value items)
    ∙ ap (λ ds. list_bytes u64_bytes (directory_ids ds)) c.directories-directories.ensures)
