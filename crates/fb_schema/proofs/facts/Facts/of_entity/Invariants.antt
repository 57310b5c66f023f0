use Rattle.std.proofs.Common.{◌≡◌, take}
use Rattle.std.specs.Map.{values_of}
use Rattle.fb_schema.specs.Numbered.{of_entity}
use Rattle.fb_schema.proofs.facts.Facts.of_entity.Given as goal

-- the facts so far
abbrev pub invariant-loop-number : goal.invariant-loop-number
invariant-loop-number l = l.own.items ≡ take l.number-index (values_of (of_entity l.e l.self-inside.by_number))
