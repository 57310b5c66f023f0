use Rattle.std.proofs.Common.{◌≡◌, ◌++◌, drop}
use Rattle.std.specs.Option.{option_copied}
use Rattle.fact_trees.specs.Facts.{facts_before}
use Rattle.fact_trees.proofs.leaf.with_facts.Given as goal

-- those so far, and those that are left
abbrev pub invariant-loop-place : goal.invariant-loop-place
invariant-loop-place l =
    l.list.items ++ facts_before (drop l.place l.datoms) (option_copied l.next)
    ≡ l.initial.list.items ++ facts_before l.datoms (option_copied l.next)
