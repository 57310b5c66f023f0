use Rattle.std.proofs.Common.{◌<◌, ◌≤◌, ◌++◌, length, map, ap, ◌∙◌, arith}
use Rattle.std.specs.Arc.{arc_value}
use Rattle.log_model.specs.Fields.{u32_bytes}
use Rattle.log_model.specs.Nodes.{directory_bytes}
use Rattle.seg_tree.specs.Nodes.{DirectoryNode}
use Rattle.seg_codec.specs.Trees.{file_directory}
use Rattle.seg_codec.proofs.Rows.{written_more, written_all, list_written, list_mapped}
use Rattle.seg_codec.proofs.written.put_directories.Goals as goal

pub loop-directory-preserved : goal.loop-directory-preserved
loop-directory-preserved c =
    let there : c.loop-directory.directory-index < length c.deref-directory-items.result.now = omega arith in
    let within = rw c.deref-directory-items.ensures.value at there in
    let is = rw c.deref-directory-items.ensures.value at c.directory-item.is in
    written_more (λ d. directory_bytes (file_directory
    (arc_value {X = DirectoryNode} d))) c.args.directories.now.items c.loop-directory.directory-index c.directory-item.result
    (c.args.out.now.items ++ u32_bytes
    (length c.args.directories.now.items)) c.loop-directory.out.items c.put_directory.new.out.items within is c.loop-directory.invariant
    (c.in_ok-put_directory.ensures ∙ ap (λ d. c.loop-directory.out.items ++ directory_bytes (file_directory d)) c.deref.ensures)

pub returns : goal.returns
returns c =
    let old = c.args.out.now.items in
    let items = c.args.directories.now.items in
    let past : length c.deref-directory-items.result.now ≤ c.loop-directory.directory-index = omega arith in
    list_written (λ d. directory_bytes (file_directory (arc_value {X = DirectoryNode} d))) items old c.loop-directory.out.items
    (written_all (λ d. directory_bytes (file_directory (arc_value {X = DirectoryNode} d))) items c.loop-directory.directory-index
    (old ++ u32_bytes (length items)) c.loop-directory.out.items
    (rw c.deref-directory-items.ensures.value at past) c.loop-directory.invariant)
    ∙ ap (λ l. old ++ l) (list_mapped (λ (d : DirectoryNode). directory_bytes (file_directory d)) arc_value items
    ∙ list_mapped directory_bytes file_directory (map arc_value items))
