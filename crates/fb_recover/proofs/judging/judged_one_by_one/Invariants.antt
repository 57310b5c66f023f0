use Rattle.fb_recover.specs.Judging.{IsJudged}
use Rattle.fb_recover.proofs.judging.judged_one_by_one.Given as goal

abbrev pub invariant-loop-entry : goal.invariant-loop-entry
invariant-loop-entry l = IsJudged l.yielded l.judged
