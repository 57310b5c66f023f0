use Rattle.std.proofs.Common.{sym}
use Rattle.fb_checks.proofs.checks.ChecksGuardSnapshot.judge.Goals as goal

pub returns : goal.returns
returns g c = rw (sym c.deref.ensures.value, sym c.deref-2.ensures.value) c.bar_of.ensures
