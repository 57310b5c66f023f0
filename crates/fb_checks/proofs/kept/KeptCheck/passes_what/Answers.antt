use Rattle.fb_checks.proofs.Deciding.{kept_says}
use Rattle.fb_checks.proofs.kept.KeptCheck.passes_what.Goals as goal

pub returns : goal.returns
returns g c = kept_says _ g.M.Answers.says c.requires.no_other c.requires.passing c.args.self.now.decided
