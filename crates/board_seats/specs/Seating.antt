-- What is known of seats as a board is opened, and what is kept of them as they come together.
-- This project's own choice.
use Rattle.std.specs.Prelude.{◌≡◌, ◌⊎◌, ℕ, List}
use mathlib.Core.Option.{some}
use lib.ListN.{get_elem?}
use Rattle.atomic_table.specs.Seated.{TableId}
use Rattle.board_rule.specs.declared.seat.BoardSeat.{BoardSeat}
use Rattle.board_rule.specs.declared.view.Code.{Code}
use Rattle.board_rule.specs.declared.view.Joined.{Joined}
use Rattle.board_rule.specs.declared.view.View.{View}
use Rattle.board_rule.specs.Views.{starting, IsIdle}
use Rattle.board_rule.specs.Calls.{view_of, board_of}

-- new seats of the board, the k-th with the number k, which have seen these codes of a history
abbrev pub AreNew : TableId → ℕ → List Code → List BoardSeat → Type 0
AreNew table start seen seats =
    (k : ℕ) (s : BoardSeat) → get_elem? seats k ≡ some s
    → (board_of s ≡ table) × (view_of s ≡ record (starting start seen 0) { number = k })

-- seats of the board between two calls, to which none was joined
abbrev pub AreIdle : TableId → List BoardSeat → Type 0
AreIdle table seats =
    (k : ℕ) (s : BoardSeat) → get_elem? seats k ≡ some s
    → (board_of s ≡ table) × IsIdle (view_of s) × ((view_of s).seats ≡ 1)

-- the note of a seat that had the view u
pub record IsNoteOf (u : View Code) (p : Joined Code) : Type 0 where
  pub number : p.number ≡ u.number
  pub seen : p.seen ≡ u.seen
  pub commits : p.commits ≡ u.commits
  pub stop : p.stop ≡ u.stop

abbrev pub IsNoted : View Code → View Code → Type 0
IsNoted u w = (i : ℕ) × (p : Joined Code) × (get_elem? w.joined i ≡ some p) × IsNoteOf u p

-- each of these seats is noted in the view w
abbrev pub AreNoted : List BoardSeat → View Code → Type 0
AreNoted seats w = (k : ℕ) (s : BoardSeat) → get_elem? seats k ≡ some s → IsNoted (view_of s) w

-- the list is what the seat with this view has seen, or had seen before a seat was joined to it
abbrev pub HasSeen : List Code → View Code → Type 0
HasSeen l w =
    (w.seen ≡ l)
    ⊎ ((i : ℕ)
    × (p : Joined Code)
    × (get_elem? w.joined i ≡ some p)
    × (p.beside ≡ l))
