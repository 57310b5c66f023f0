use Rattle.std.proofs.Common.{◌≡◌, ◌++◌, length, take}
use Rattle.std.specs.Prelude.{flat_map}
use Rattle.std.specs.Arc.{arc_value}
use Rattle.log_model.specs.Fields.{u32_bytes}
use Rattle.log_model.specs.Nodes.{directory_bytes}
use Rattle.seg_tree.specs.Nodes.{DirectoryNode}
use Rattle.seg_codec.specs.Trees.{file_directory}
use Rattle.seg_codec.proofs.written.put_directories.Given as goal

abbrev pub invariant-loop-directory : goal.invariant-loop-directory
invariant-loop-directory l =
    l.out.items
    ≡ (l.fn.out.items ++ u32_bytes (length l.directories.items)) ++ flat_map
    (λ d. directory_bytes (file_directory (arc_value {X = DirectoryNode} d))) (take l.directory-index l.directories.items)
