use Rattle.std.proofs.Common.{◌≡◌, length}
use Rattle.std.specs.List.{All}
use Rattle.fb_conn.proofs.conn.copies_of.Given as goal

abbrev pub invariant-loop : goal.invariant-loop
invariant-loop l = (length l.copies.items ≡ l.counter) × All (λ copy. copy ≡ l.snapshot) l.copies.items
