use Rattle.std.proofs.Common.{◌≡◌, drop}
use Rattle.tx_laws.specs.Users.{counted_on}
use Rattle.tx_laws.proofs.numbers.counted_on.Given as goal

abbrev pub invariant-loop-n : goal.invariant-loop-n
invariant-loop-n l = counted_on (drop l.n-index l.numbers) l.last ≡ counted_on l.numbers l.issued
