use Rattle.fb_pull.specs.Attributes.{names_of}
use Rattle.fb_pull.proofs.Named.{IsBehind}
use Rattle.fb_pull.proofs.names.place_of.Given as goal

abbrev pub invariant-loop-at : goal.invariant-loop-at
invariant-loop-at l = IsBehind l.name (names_of l.list) l.at
