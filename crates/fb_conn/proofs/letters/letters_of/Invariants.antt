use Rattle.std.proofs.Common.{◌≡◌, ◌≤◌, length}
use Rattle.std.specs.Prelude.{vec_capacity}
use Rattle.std.specs.List.{All}
use Rattle.fb_conn.proofs.letters.letters_of.Given as goal

abbrev pub invariant-loop : goal.invariant-loop
invariant-loop l =
    (length l.letters.items ≡ l.counter) × All (λ letter. letter.one.entries ≡ l.snapshot.entries) l.letters.items
    × (l.fn.sessions ≤ vec_capacity l.letters)
