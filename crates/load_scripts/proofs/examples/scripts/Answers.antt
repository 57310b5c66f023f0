use Rattle.std.proofs.Common.{refl}
use Rattle.std.specs.Fmt.{digits}
use Rattle.load_scripts.proofs.examples.scripts.Goals as goal

pub returns-clause-first : goal.returns-clause-first
unfolding digits
returns-clause-first c = refl

pub returns-clause-fourth : goal.returns-clause-fourth
unfolding digits
returns-clause-fourth c = refl
