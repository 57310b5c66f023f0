use Rattle.fb_recover.proofs.Laws.{first-judged}
use Rattle.fb_recover.proofs.judging.Judged.first.Goals as goal

pub returns : goal.returns
returns c =
    first-judged c.in_ok-held.held c.in_ok-entries.entries c.at.result.now c.in_ok-schema.schema c.first_is_lawful.ensures
    c.in_ok-held.ensures c.in_ok-entries.ensures c.at.ensures c.in_ok-schema.ensures
