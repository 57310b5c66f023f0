use Rattle.std.proofs.Common.{◌≡◌, ◌≤◌, take}
use Rattle.edn_core.proofs.Stacks.{depth}
use Rattle.edn_core.proofs.construct.has_room.Given as goal

abbrev pub invariant-loop-frame : goal.invariant-loop-frame
invariant-loop-frame l = record { is : l.depth ≡ depth (take l.frame-index l.frames); small : l.depth ≤ l.frame-index }
