use Rattle.std.proofs.Common.{◌≡◌, length}
use Rattle.std.specs.List.{All}
use Rattle.test_board.proofs.book.Page.copies.Given as goal

abbrev pub invariant-loop : goal.invariant-loop
invariant-loop l = (length l.pages.items ≡ l.counter) × All (λ p. p.entries.items ≡ l.entries) l.pages.items
