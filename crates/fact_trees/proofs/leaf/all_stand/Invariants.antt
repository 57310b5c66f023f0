use Rattle.std.proofs.Common.{◌≡◌, drop}
use Rattle.std.specs.Option.{option_copied}
use Rattle.fact_trees.specs.Facts.{all_stand}
use Rattle.fact_trees.proofs.leaf.all_stand.Given as goal

-- those so far stand
abbrev pub invariant-loop-place : goal.invariant-loop-place
invariant-loop-place l = all_stand (drop l.place l.datoms) (option_copied l.next) ≡ all_stand l.datoms (option_copied l.next)
