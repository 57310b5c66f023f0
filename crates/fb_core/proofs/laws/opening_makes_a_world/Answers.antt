use Rattle.std.proofs.Common.{refl, arith}
use Rattle.fb_core.proofs.laws.opening_makes_a_world.Goals as goal

pub returns : goal.returns
returns c = λ snapshot kept. record { history = refl; adopted = refl; opening = omega arith; commits = λ s. refl }
