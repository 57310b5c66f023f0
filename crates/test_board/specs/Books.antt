-- The history that a book of numbers is, and what a seat knows while it has one.
-- This project's own choice.
use Rattle.std.specs.Prelude.{◌≡◌, ℕ, ◌<◌, List, length, Option, Some, None}
use base.Stored.{coded_ℕ}
use Rattle.board_rule.specs.declared.view.Stop.{Stop}
use Rattle.board_rule.specs.declared.view.Marks.{Marks}
use Rattle.board_rule.specs.declared.view.At.TheVariants.{Away}
use Rattle.board_rule.specs.declared.view.Grab.TheVariants.{Free}
use Rattle.board_rule.specs.declared.view.Code.{Code}
use Rattle.board_rule.specs.declared.view.View.{View}
use Rattle.board_rule.specs.Views.{codes, story, IsIdle}
use Rattle.test_board.specs.declared.book.Halt.{Halt}

abbrev pub stop_of : Option Halt → Option Stop
stop_of None = None
stop_of (Some h) = Some record { at = h.at; author = h.author }

abbrev pub marks_of_book : Option Halt → Marks
marks_of_book halt = record { stop = stop_of halt; covered = 0 }

-- a halt names the place of the entry that was not added
abbrev pub IsSoundBook : List ℕ → Option Halt → Type 0
IsSoundBook entries halt = (h : Halt) → halt ≡ Some h → h.at ≡ length entries

-- the seat has the turn, and this book out of its slot
abbrev pub HasBook : View Code → List ℕ → List ℕ → Option Halt → Type 0
HasBook v entries authors halt =
    (v.turn ≡ Some (story (codes coded_ℕ.code entries) authors (marks_of_book halt)))
    × (v.core ≡ Away)
    × (v.next ≡ None)
    × (v.grab ≡ Free)

-- the seat has the number that it had, and counts for as many seats
abbrev pub IsSameSeat : View Code → View Code → Type 0
IsSameSeat v w = (w.number ≡ v.number) × (w.seats ≡ v.seats)

-- the seat of a worker that has done nothing, or has done its work
abbrev pub IsHired : ℕ → View Code → Type 0
IsHired n v = IsIdle v × (v.number < n) × (v.draws ≡ 0) × (v.seats ≡ 1)

abbrev pub IsDone : View Code → Type 0
IsDone v = IsIdle v × (v.seats ≡ 1)
