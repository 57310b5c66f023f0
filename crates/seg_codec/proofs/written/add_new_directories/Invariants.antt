use Rattle.std.proofs.Common.{◌≡◌, ◌++◌, not, map, take}
use Rattle.std.specs.Prelude.{filter}
use Rattle.std.specs.Arc.{arc_value}
use Rattle.log_model.specs.Nodes.{is_among}
use Rattle.seg_tree.specs.Nodes.{DirectoryNode}
use Rattle.seg_codec.proofs.written.add_new_directories.Given as goal

abbrev pub invariant-loop-directory : goal.invariant-loop-directory
invariant-loop-directory l =
    map arc_value l.new.items ≡ map arc_value l.fn.new.items ++ filter (λ (d : DirectoryNode). not (is_among l.in_file d.id))
    (map arc_value (take l.directory-index l.directory-items))
