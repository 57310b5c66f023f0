use Rattle.fb_pull.specs.Near.{lent}
use Rattle.fb_pull.proofs.Entities.{IsAhead}
use Rattle.fb_pull.proofs.facts.first_among.Given as goal

abbrev pub invariant-loop-d : goal.invariant-loop-d
invariant-loop-d l = IsAhead l.a (lent l.datoms) l.d-index
