use Rattle.live_model.proofs.Cutting.{whole_ended, one_more, last_more}
use Rattle.live_model.proofs.lines.lines_one_by_one.Goals as goal

pub returns-clause-whole : goal.returns-clause-whole
returns-clause-whole c = whole_ended

pub returns-clause-more : goal.returns-clause-more
returns-clause-more c = one_more

pub returns-clause-last : goal.returns-clause-last
returns-clause-last c = last_more
