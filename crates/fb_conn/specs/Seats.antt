-- When a seat is at rest between two calls, and what a session knows through it.
-- This project's own choice.
use Rattle.std.specs.Prelude.{◌≡◌, ℕ, ◌+◌, ◌-◌, ◌<◌, ◌==◌, Bool, false, List, [], ◌∷◌, Option, Some}
use Rattle.std.specs.Prelude.{None, option_map}
use base.Stored.{Coded-set, Gv-set}
use Rattle.std.proofs.Props.{props}
use Rattle.atomic_table.specs.Seated.{TableId, table_id_coded}
use Rattle.fb_values.specs.declared.facts.Entry.{Entry}
use Rattle.fb_view.specs.SnapshotModel.{SnapshotModel}
use Rattle.fb_desk.specs.declared.answers.Glance.{Glance}
use Rattle.fb_desk.specs.declared.answers.Glance.TheVariants.{Fresh, Held}
use Rattle.fb_desk.specs.Desks.{State, most_calls}
use Rattle.board_rule.specs.declared.seat.BoardSeat.{BoardSeat}
use Rattle.board_rule.specs.declared.view.Stop.{Stop}
use Rattle.board_rule.specs.declared.view.Code.{Code}
use Rattle.board_rule.specs.declared.view.View.{View}
use Rattle.board_rule.specs.Views.{worker, StartsWith, codes, IsIdle}
use Rattle.board_rule.specs.Calls.{view_of, board_of}
use Rattle.board_seats.specs.Sight.{Sees}
use Rattle.fb_conn.specs.declared.conn.Conn.{Conn}
use Rattle.fb_conn.specs.declared.seats.Seat.{Seat}
use Rattle.fb_conn.specs.Homes.{code_of}

abbrev pub board_in : Seat → BoardSeat
board_in seat = seat.board

abbrev pub last_in : Seat → SnapshotModel
last_in seat = seat.last

-- a seat of this table between two calls: what it has seen is the history of its last snapshot
pub record IsAtRest (table : TableId) (seat : Seat) : Type 0 where
  pub on : board_of seat.board ≡ table
  pub idle : IsIdle (view_of seat.board)
  pub alone : (view_of seat.board).seats ≡ 1
  pub seen : Sees code_of (view_of seat.board) seat.last.entries

module _ {L R : Type 0} where
  abbrev pub table_of : Conn L R → TableId
  table_of conn = conn.board.table.shared.table_id

  abbrev pub sessions_of : Conn L R → ℕ
  sessions_of conn = conn.board.table.shared.key.sessions

  -- the log as it was when the database was opened
  abbrev pub begun_of : Conn L R → L
  begun_of conn = conn.board.table.shared.key.home.value.begun.value

  -- the seat of one of the sessions
  abbrev pub IsSeatOf : Conn L R → Seat → Type 0
  IsSeatOf conn seat =
      IsAtRest (table_of conn) seat × ((view_of seat.board).number < sessions_of conn)

  -- the worker's seat, which adds nothing
  abbrev pub IsWorkerOf : Conn L R → Seat → Type 0
  IsWorkerOf conn seat =
      IsAtRest (table_of conn) seat
      × ((view_of seat.board).number ≡ worker)
      × ((view_of seat.board).commits ≡ [])

  -- such a fact has one proof, so a struct may keep it
  pub IsSeatOf-prop : (conn : Conn L R) (seat : Seat) → IsProp (IsSeatOf conn seat)
  IsSeatOf-prop conn seat = hlevel (props, table_id_coded, Coded-set, Gv-set)

-- the seat took one turn more, and is otherwise the same
abbrev pub TookTurn : View Code → View Code → Type 0
TookTurn v w = (w.draws ≡ v.draws + 1) × (w.given ≡ v.given) × (w.start ≡ v.start)

abbrev pub at_of : Stop → ℕ
at_of stop = stop.at

-- the seat of this number is the author of the stop
abbrev pub is_own : ℕ → Option Stop → Bool
is_own number None = false
is_own number (Some stop) = stop.author == number

-- what distinguishes one table from others
abbrev pub numbers_of : TableId → List ℕ
numbers_of table =
    table.words
    ∷ table.slots ∷ table.views_name ∷ table.atom ∷ table.block ∷ table.offset ∷ table.slot_names

-- what a seat of the table knows that has this view and has seen this list
abbrev pub state_by : TableId → View Code → List Entry → State
state_by table v entries = record {
  entries = entries;
  opening = v.start;
  commits = v.commits;
  stop = option_map at_of v.stop;
  teller = is_own v.number v.stop;
  tally = record { glances = v.grabs; loads = v.loads };
  left = most_calls - v.draws;
  seat = v.number ∷ numbers_of table;
}

abbrev pub state_of : Seat → State
state_of seat = state_by (board_of seat.board) (view_of seat.board) seat.last.entries

-- A fresh snapshot has at least what this call's grab found in the mail. The other one is answered
-- where the grab met the holder of the turn, and has what was seen before.
abbrev pub Finds : View Code → List Entry → Glance → Type 0
Finds v last (Fresh snapshot) =
    (v.met ≡ 0)
    × ((l : List Entry)
    × (v.last_found ≡ Some (codes code_of l))
    × StartsWith snapshot.entries l)
Finds v last (Held snapshot) = (v.met ≡ 2) × (snapshot.entries ≡ last)
