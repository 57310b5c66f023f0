use Rattle.std.proofs.Common.{◌≡◌, ◌++◌, drop, map}
use Rattle.fb_pull.proofs.facts.subjects.Given as goal

abbrev pub invariant-loop-d : goal.invariant-loop-d
invariant-loop-d l = l.list.items ++ map (λ d. d.now.e) (drop l.d-index l.datoms) ≡ map (λ d. d.now.e) l.datoms
