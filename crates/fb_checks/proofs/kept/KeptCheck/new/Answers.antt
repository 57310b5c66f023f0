-- What the function says is what the closure may answer.
use Rattle.fb_checks.proofs.Deciding.{kept_once, kept_decided}
use Rattle.fb_checks.proofs.kept.KeptCheck.new.Goals as goal

pub invariant_of-kept-clause-one_answer : goal.invariant_of-kept-clause-one_answer
invariant_of-kept-clause-one_answer g c = kept_once _ g.M.Answers.says c.requires.no_other c.requires.passing

pub invariant_of-kept-clause-decided : goal.invariant_of-kept-clause-decided
invariant_of-kept-clause-decided g c = kept_decided _ g.M.Answers.says c.requires.no_other c.requires.passing
