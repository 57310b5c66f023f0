use Rattle.std.proofs.Common.{◌≡◌, drop}
use Rattle.std.specs.List.{list_any}
use Rattle.tx_resolve.specs.Breaks.{gives_one_of_two}
use Rattle.tx_resolve.proofs.rules.has_conflict.Given as goal

abbrev pub invariant-loop-draft : goal.invariant-loop-draft
invariant-loop-draft l = list_any (gives_one_of_two l.slots) (drop l.draft-index l.drafts) ≡ list_any (gives_one_of_two l.slots) l.drafts
