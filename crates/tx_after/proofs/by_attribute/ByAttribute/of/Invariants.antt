use Rattle.std.proofs.Common.{◌≡◌, ℕ, ◌++◌, drop}
use Rattle.std.specs.Prelude.{filter}
use Rattle.fb_facts.specs.FactLists.{is_under}
use Rattle.tx_after.specs.Parts.{part_at}
use Rattle.tx_after.proofs.by_attribute.ByAttribute.of.Given as goal

abbrev pub invariant-loop-d : goal.invariant-loop-d
invariant-loop-d l = (a : ℕ) → part_at l.parts a ++ filter (is_under a) (drop l.d-index l.changes) ≡ filter (is_under a) l.changes
