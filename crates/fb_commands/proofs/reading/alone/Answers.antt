use Rattle.std.proofs.Common.{refl, codes}
use Rattle.fb_commands.proofs.Words.{differs}
use Rattle.fb_commands.proofs.reading.alone.Goals as goal

pub returns-in_default : goal.returns-in_default
returns-in_default c =
    let word = c.args.word.now in
    let other = c.in_default in
    rw (
      differs (codes "db") word other.not-db,
      differs (codes "sync") word other.not-sync,
      differs (codes "history") word other.not-history,
      differs (codes "unfilter") word other.not-unfilter,
      differs (codes "request-index") word other.not-text,
    ) refl
