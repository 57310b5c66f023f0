use Rattle.std.proofs.Common.{◌≡◌, ◌++◌, map, take}
use Rattle.std.specs.Arc.{arc_value}
use Rattle.seg_codec.specs.Trees.{directory_ids}
use Rattle.seg_codec.proofs.lacking.add_directory_ids.Given as goal

abbrev pub invariant-loop-directory : goal.invariant-loop-directory
invariant-loop-directory l = l.ids.items ≡ l.fn.ids.items ++ directory_ids (map arc_value (take l.directory-index l.directories.items))
