use Rattle.std.proofs.Common.{refl, codes}
use Rattle.fb_commands.proofs.Words.{differs}
use Rattle.fb_commands.proofs.reading.before_one.Goals as goal

pub returns-in_default : goal.returns-in_default
returns-in_default c =
    let word = c.args.word.now in
    let other = c.in_default in
    rw (
      differs (codes "transact") word other.not-transact,
      differs (codes "as-of") word other.not-text,
      differs (codes "since") word other.not-since,
      differs (codes "filter") word other.not-filter,
    ) refl
