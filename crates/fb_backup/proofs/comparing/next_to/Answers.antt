use Rattle.std.proofs.lemmas.Bool.Decides.{not_from_Decides}
use Rattle.fb_backup.proofs.Records.{same-more, other-more}
use Rattle.fb_backup.proofs.comparing.next_to.Goals as goal

pub returns-then-has_at : goal.returns-then-has_at
returns-then-has_at c = λ records payload stands is.
    same-more c.args.entries.now c.requires.lawful c.args.t c.args.entry.now records payload stands is
    (c.has_at.ensures.0 c.if-has_at.true)

pub returns-else-has_at : goal.returns-else-has_at
returns-else-has_at c = λ records payload stands is.
    other-more c.args.entries.now c.requires.lawful c.args.t c.args.entry.now records payload stands is c.requires.within
    (not_from_Decides c.has_at.result c.has_at.ensures c.if-has_at.false)
