use Rattle.std.proofs.Common.{◌≡◌, drop}
use Rattle.std.specs.List.{list_any}
use Rattle.tx_resolve.specs.Breaks.{uses_one_of_none}
use Rattle.tx_resolve.proofs.rules.has_one_of_none.Given as goal

abbrev pub invariant-loop-draft : goal.invariant-loop-draft
invariant-loop-draft l = list_any (uses_one_of_none l.slots) (drop l.draft-index l.drafts) ≡ list_any (uses_one_of_none l.slots) l.drafts
