use Rattle.std.proofs.Common.{subst, arith}
use Rattle.fb_backup.specs.Comparing.{AreBeside}
use Rattle.fb_backup.proofs.Records.{other-stays}
use Rattle.fb_backup.proofs.comparing.Beside.with.Goals as goal

pub next_to-requires-clause-within : goal.next_to-requires-clause-within
next_to-requires-clause-within c =
    let are = subst (AreBeside c.args.entries.now c.requires.beside.0) c.in-Same.is c.requires.beside.1 in
    omega (arith, are.0, c.lawful_histories_are_counted_by_t.ensures.counted c.args.entries.now c.requires.lawful)

pub returns-in-Same : goal.returns-in-Same
returns-in-Same c = λ records payload are is.
    c.next_to.ensures records payload (subst (AreBeside c.args.entries.now records) c.in-Same.is are).1 is

pub returns-in-Other : goal.returns-in-Other
returns-in-Other c = λ records payload are is.
    other-stays c.args.entries.now records c.in-Other.t c.args.entry.now payload
    (subst (AreBeside c.args.entries.now records) c.in-Other.is are) is
