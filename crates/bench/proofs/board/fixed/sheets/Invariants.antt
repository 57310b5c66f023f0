use Rattle.std.proofs.Common.{◌≡◌, length}
use Rattle.bench.proofs.board.fixed.sheets.Given as goal

abbrev pub invariant-loop : goal.invariant-loop
invariant-loop l = length l.sheets.items ≡ l.counter
