-- What the holder of the turn has, and what it has made before it records a transaction.
-- This project's own choice.
use Rattle.std.specs.Prelude.{◌≡◌, ℕ, List, [], ◌∷◌, ◌++◌, length, Some, None}
use Rattle.std.specs.List.{All}
use Rattle.fb_values.specs.declared.facts.Entry.{Entry}
use Rattle.fb_model.specs.History.{basis}
use Rattle.fb_view.specs.SnapshotModel.{SnapshotModel}
use Rattle.fb_core.specs.declared.accepting.Draft.{Draft}
use Rattle.fb_core.specs.Cores.{entry_of}
use Rattle.fb_desk.specs.declared.answers.Receipt.{Receipt}
use Rattle.fb_desk.specs.declared.answers.TxFault.{TxFault}
use Rattle.fb_desk.specs.declared.answers.TxFault.TheVariants.{LogFault}
use Rattle.board_rule.specs.declared.view.Marks.{Marks}
use Rattle.board_rule.specs.declared.view.At.TheVariants.{Away}
use Rattle.board_rule.specs.declared.view.Grab.TheVariants.{Free}
use Rattle.board_rule.specs.declared.view.Code.{Code}
use Rattle.board_rule.specs.declared.view.View.{View}
use Rattle.board_rule.specs.Views.{codes, story}
use Rattle.board_rule.specs.Calls.{view_of, board_of}
use Rattle.board_turn.specs.Turn.{left}
use Rattle.fb_conn.specs.declared.conn.Conn.{Conn}
use Rattle.fb_conn.specs.declared.home.Kept.{Kept}
use Rattle.fb_conn.specs.declared.letters.Letter.{Letter}
use Rattle.fb_conn.specs.declared.seats.Seat.{Seat}
use Rattle.fb_conn.specs.declared.recording.Ready.{Ready}
use Rattle.fb_conn.specs.Homes.{code_of, marks_of}
use Rattle.fb_conn.specs.Seats.{table_of, begun_of}

-- the seat has the turn of the connection's board,
-- with slot 0's value, and has changed nothing that the board knows of
pub record HasTurn {L R : Type 0} (conn : Conn L R) (seat : Seat) (home : Kept L) : Type 0 where
  pub on : board_of seat.board ≡ table_of conn
  pub turn : (view_of seat.board).turn
      ≡ Some
      (story (codes code_of home.core.snapshot.entries) home.core.authors (marks_of home))
  pub core : (view_of seat.board).core ≡ Away
  pub next : (view_of seat.board).next ≡ None
  pub tried : (view_of seat.board).tried ≡ None
  pub grab : (view_of seat.board).grab ≡ Free
  pub origin : home.begun.value ≡ begun_of conn

-- the turn is over, and the entry of this t was added in it, the last of the list
abbrev pub committed : View Code → List Entry → ℕ → Marks → ℕ → View Code
committed v entries t marks met =
    record (left v marks)
    { grab = Free; seen = codes code_of entries; commits = v.commits ++ t ∷ []; met = met }

-- what is named after a turn in which the log failed at the draft's entry,
-- which the seat of this number added
abbrev pub stopped_at : ℕ → Draft → Marks
stopped_at number draft =
    record {
      stop = Some (record { at = basis draft.after.entries; author = number });
      covered = draft.after.covered;
    }

-- the receipt of the draft
pub record IsReceiptOf (draft : Draft) (receipt : Receipt) : Type 0 where
  pub t : receipt.t ≡ basis draft.after.entries
  pub instant : receipt.instant ≡ (entry_of draft).instant
  pub tempids : receipt.tempids.items ≡ draft.tempids.items
  pub snapshot : receipt.snapshot ≡ draft.after

-- the fault that says that the log did not take the draft's entry, with the value before it
abbrev pub IsLogFaultOf : SnapshotModel → Draft → TxFault → Type 0
IsLogFaultOf before draft fault =
    (snapshot : SnapshotModel)
    × (fault ≡ LogFault (basis draft.after.entries) snapshot)
    × (snapshot.entries ≡ before.entries)

-- a letter with the draft's value for each of n sessions
abbrev pub ArePosted : Draft → ℕ → List Letter → Type 0
ArePosted draft n letters =
    (length letters ≡ n) × All (λ letter. letter.one.entries ≡ draft.after.entries) letters

-- All that recording the draft's entry takes memory for:
-- its record, snapshots without it and with it, and those to be mailed
pub record IsReady {R : Type 0} (is_of : R → Entry → Type 0) (before : SnapshotModel)
    (draft : Draft) (n : ℕ)
    (ready : Ready R) : Type 0 where
  pub made : is_of ready.made (entry_of draft)
  pub before_is : ready.before.one ≡ before
  pub after_is : ready.after.one ≡ draft.after
  pub mails : ArePosted draft n ready.mails.items
