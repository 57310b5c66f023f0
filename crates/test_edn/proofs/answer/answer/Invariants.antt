use Rattle.std.proofs.Common.{◌-◌, length}
use Rattle.test_edn.proofs.answer.answer.Given as goal

abbrev pub decreases-loop-form : goal.decreases-loop-form
decreases-loop-form l = length l.text - l.at
