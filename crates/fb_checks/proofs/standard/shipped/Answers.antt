use Rattle.std.proofs.Common.{rules}
use Rattle.fb_checks.proofs.Guards.{shipped_is}
use Rattle.fb_checks.proofs.standard.shipped.Goals as goal

pub returns-clause-guard : goal.returns-clause-guard
returns-clause-guard g c = shipped_is _ _ c.in_ok-vec.field-0.items c.in_ok-vec-2.field-0.items (search rules) (search rules)
