use Rattle.fb_checks.proofs.Deciding.{answer_is}
use Rattle.fb_checks.proofs.kept.KeptCheckCheck.test.Goals as goal

pub returns : goal.returns
returns g c = answer_is c.args.self.now.decided c.args.d.now c.answer.ensures.held c.answer.result c.answer.ensures.answer
