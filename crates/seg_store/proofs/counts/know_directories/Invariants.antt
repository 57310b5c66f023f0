use Rattle.std.proofs.Common.{map, take}
use Rattle.std.specs.Prelude.{All}
use Rattle.std.specs.Arc.{arc_value}
use Rattle.seg_store.specs.Counts.{HasFewLeaves}
use Rattle.seg_store.proofs.counts.know_directories.Given as goal

abbrev pub invariant-loop-directory : goal.invariant-loop-directory
invariant-loop-directory l = All HasFewLeaves (map arc_value (take l.directory-index l.directories))
