-- The seats of the two sessions, between two calls.
-- This project's own choice.
use Rattle.std.specs.Prelude.{◌≡◌, ℕ, List, length, Some}
use Rattle.std.specs.List.{slice_get}
use Rattle.board_rule.specs.Calls.{view_of}
use Rattle.fb_conn.specs.declared.conn.Conn.{Conn}
use Rattle.fb_conn.specs.declared.seats.Seat.{Seat}
use Rattle.fb_conn.specs.Seats.{IsSeatOf}

module _ {L R : Type 0} where
  abbrev pub IsSession : Conn L R → ℕ → Seat → Type 0
  IsSession conn k seat = IsSeatOf conn seat × ((view_of seat.board).number ≡ k)

  abbrev pub AreSessions : Conn L R → List Seat → Type 0
  AreSessions conn seats =
      (length seats ≡ 2)
      × ((k : ℕ) (seat : Seat) → slice_get seats k ≡ Some seat → IsSession conn k seat)
