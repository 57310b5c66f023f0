-- What a session does at its desk, and what is left of it.
-- This project's own choice.
use Rattle.std.specs.Prelude.{◌≡◌, ℕ, List, ◌++◌, length, Some, slice_get}
use Rattle.fb_model.specs.History.{basis}
use Rattle.talk_model.specs.Prefixes.{Prefixes}
use Rattle.board_rule.specs.Calls.{view_of}
use Rattle.fb_desk.specs.Desks.{State, WentOn}
use Rattle.fb_conn.specs.declared.seats.Seat.{Seat}
use Rattle.fb_conn.specs.declared.conn.Conn.{Conn}
use Rattle.fb_conn.specs.Seats.{table_of, IsAtRest, state_of}
use Rattle.fb_session.specs.Sessions.{over}
use Rattle.fb_session.specs.Terms.{Terms}
use Rattle.fb_session.specs.Replies.{Replies, SessionRun, SourceCount, SinkCount}
use Rattle.fb_run.specs.declared.outcome.SessionOut.{SessionOut}
use Rattle.fb_run.specs.Outside.{StreamSpec}

-- what a session was handed, as this source and this sink held it, and what it hands back
abbrev pub run_from : {I O : Type 0} → StreamSpec I O → I → O → SessionOut I O → SessionRun
run_from io source sink session =
    record {
      held = io.left source;
      left = io.left session.source;
      had = io.contents sink;
      has = io.contents session.sink;
      places = session.places;
      commits = session.commits;
      end = session.end;
    }

-- a session was answered by its desk,
-- which went from one state to another, and became this of what it was
pub record HasTalked {I O : Type 0} (terms : Terms) (io : StreamSpec I O) (was now : State)
    (old new : SessionOut I O) : Type 0 where
  pub replies : Replies (over terms now) (basis was.entries)
      (run_from io old.source old.sink new)
  pub prefixes : Prefixes (basis was.entries) (basis now.entries) new.places new.commits
  pub commits : now.commits ≡ was.commits ++ new.commits
  pub went_on : WentOn was now
  pub source_count :
      SourceCount new.end (io.source_faults old.source) (io.source_faults new.source)
  pub sink_count : SinkCount new.end (io.sink_faults old.sink) (io.sink_faults new.sink)

-- Each of the sessions talked at its seat:
-- these are the seats between two calls, and what is left of the sessions.
pub record HaveTalked {I O L R : Type 0} (terms : Terms) (io : StreamSpec I O) (conn : Conn L R)
    (given : List Seat) (opened : List (SessionOut I O)) (seats : List Seat)
    (sessions : List (SessionOut I O)) : Type 0 where
  pub seat_count : length seats ≡ length given
  pub session_count : length sessions ≡ length given
  pub talked : (k : ℕ) (was now : Seat) (old new : SessionOut I O) → slice_get given k ≡ Some was
      → slice_get seats k ≡ Some now → slice_get opened k ≡ Some old
      → slice_get sessions k ≡ Some new
      → HasTalked terms io (state_of was) (state_of now) old new
  pub rested : (k : ℕ) (was now : Seat) → slice_get given k ≡ Some was
      → slice_get seats k ≡ Some now
      → IsAtRest (table_of conn) now × ((view_of now.board).number ≡ (view_of was.board).number)
