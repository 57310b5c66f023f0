use Rattle.std.proofs.Common.{◌≡◌, ◌++◌, length, take}
use Rattle.std.specs.Prelude.{flat_map}
use Rattle.std.specs.Arc.{arc_value}
use Rattle.log_model.specs.Fields.{u32_bytes, u64_bytes}
use Rattle.seg_tree.specs.Nodes.{DirectoryNode}
use Rattle.seg_codec.proofs.written.put_root.Given as goal

abbrev pub invariant-loop-directory : goal.invariant-loop-directory
invariant-loop-directory l =
    l.out.items ≡ (l.fn.out.items ++ u32_bytes (length l.directories)) ++ flat_map (λ d. u64_bytes (arc_value {X = DirectoryNode} d).id)
    (take l.directory-index l.directories)
