-- How a run comes about: what its sessions are given,
-- and what the closed database and the sessions leave.
-- This project's own choice.
use Rattle.std.specs.Prelude.{◌≡◌, ℕ, ◌+◌, ◌<◌, ◌≤◌, ◌==◌, List, [], ◌∷◌, ◌++◌, map, length, Option}
use Rattle.std.specs.Prelude.{Some, None, option_map, IsSome, IfSome, slice_get, string_bytes}
use Rattle.std.specs.List.{AllByRecursion}
use Rattle.fb_values.specs.declared.facts.Entry.{Entry}
use Rattle.fb_model.specs.History.{basis, upto}
use Rattle.fb_model.specs.Lawful.{IsLawful}
use Rattle.fb_view.specs.SnapshotModel.{SnapshotModel}
use Rattle.fb_desk.specs.Desks.{as_opened}
use Rattle.board_rule.specs.Calls.{view_of}
use Rattle.fb_conn.specs.declared.conn.Conn.{Conn}
use Rattle.fb_conn.specs.declared.seats.Seat.{Seat}
use Rattle.fb_conn.specs.Seats.{IsSeatOf, IsWorkerOf, state_of}
use Rattle.fb_conn.specs.declared.home.Stop.{Stop}
use Rattle.fb_conn.specs.Closing.{at_of, IsTakenIn}
use Rattle.fb_conn.specs.Homes.{IsTornBy}
use Rattle.fb_core.specs.declared.accepting.Draft.{Draft}
use Rattle.fb_core.specs.Cores.{entry_of}
use Rattle.disk_log.specs.Disks.{HasKept, HasBroken}
use Rattle.disk_log.specs.Logs.{disk_in}
use Rattle.seg_store.specs.Stores.{disk_in as segments_in}
use Rattle.fb_session.specs.Terms.{Terms}
use Rattle.fb_session.specs.Replies.{Replies, SourceCount, SinkCount}
use Rattle.fb_run.specs.declared.outcome.SessionOut.{SessionOut}
use Rattle.fb_run.specs.declared.outcome.Outcome.{Outcome}
use Rattle.fb_run.specs.StatusLines.{first_early, why_of}
use Rattle.fb_run.specs.declared.database.Directory.{Directory}
use Rattle.fb_run.specs.declared.merging.Trees.{Trees}
use Rattle.merge_worker.specs.declared.ends.WorkEnd.{WorkEnd}
use Rattle.fb_run.specs.Merging.{LeavesTrees}
use Rattle.fb_run.specs.Outside.{StreamSpec, DiskSpec, setting_of, EachOf}
use Rattle.fb_run.specs.Jobs.{run_from}
use Rattle.fb_run.specs.Headline.{stop_of}
use Rattle.fb_run.specs.Logs.{IsNext}
use Rattle.fb_run.specs.Causes.{HasDisks, SaysWhy}

-- a connection of so many sessions to this history, and the worker's seat
pub record IsMade {L R : Type 0} (sessions : ℕ) (h : List Entry) (conn : Conn L R)
    (seats : List Seat) (worker : Seat) : Type 0 where
  pub count : length seats ≡ sessions
  pub opened : (k : ℕ) (seat : Seat) → slice_get seats k ≡ Some seat
      → IsSeatOf conn seat × ((view_of seat.board).number ≡ k)
      × (state_of seat ≡ record (as_opened h) { seat = (state_of seat).seat })
  pub worker_is : IsWorkerOf conn worker
  pub given : (view_of worker.board).given ≡ sessions
  pub start : (view_of worker.board).start ≡ basis h

-- The closed database has one lawful history, whose entries after the opening's are the sessions',
-- and has taken in what each of their seats knew.
-- The log stopped or did not, and what is torn is what it did not take, of the stop's author.
pub record Closes {I O D : Type 0} (seats : List Seat) (opening : ℕ) (outcome : Outcome I O D)
    : Type 0 where
  pub last : SnapshotModel
  pub authors : List ℕ
  pub stopped : Option Stop
  pub last_is : outcome.last ≡ Some last
  pub authors_is : outcome.authors ≡ Some authors
  pub lawful : IsLawful last.entries
  pub each_t : opening + length authors ≡ basis last.entries
  pub by_sessions : AllByRecursion (λ author. author < length seats) authors
  pub taken : (k : ℕ) (seat : Seat) → slice_get seats k ≡ Some seat
      → IsTakenIn (record { snapshot = last; authors = authors }) opening stopped k (state_of seat)
  pub torn : stop_of outcome.torn ≡ option_map at_of stopped
  pub teller : IsTornBy authors stopped outcome.torn

-- what became of the log's disk since it was opened with the entries 0 to r:
-- it kept the history, or failed at what is torn
abbrev pub LeavesLog : {D : Type 0} → DiskSpec D → ℕ → D → List Entry → Option Draft → D → Type 0
LeavesLog disks r begun h None log =
    HasKept disks.bytes disks.images disks.faults disks.moment disks.images_since r begun h log
LeavesLog disks r begun h (Some draft) log =
    IsNext h draft
    × HasBroken disks.bytes disks.images disks.faults disks.moment disks.images_since r begun h
    (entry_of draft) log

-- the log's disk is handed back
pub record HandsLogBack {I O D : Type 0} (disks : DiskSpec D) (r : ℕ) (begun : D) (h : List Entry)
    (outcome : Outcome I O D) : Type 0 where
  pub log : D
  pub log_is : outcome.log ≡ Some log
  pub left : LeavesLog disks r begun h outcome.torn log

-- both disks of the directory are handed back, of which nothing was asked since it was opened
pub record HandsBothBack {I O D : Type 0} {g : _} (directory : Directory D g)
    (outcome : Outcome I O D) : Type 0 where
  pub log : outcome.log ≡ Some (disk_in directory.log)
  pub segments : outcome.segments ≡ Some (segments_in directory.store)

-- the run goes on from the history that was opened
pub record GoesOnFrom {I O D : Type 0} {g : _} (directory : Directory D g) (h : List Entry)
    (outcome : Outcome I O D) : Type 0 where
  pub recovered : outcome.recovered ≡ directory.recovered
  pub within : outcome.recovered ≤ basis h
  pub opened : upto h outcome.recovered ≡ directory.core.snapshot.entries

-- The sessions answered what they were opened with, over the one history since its opening.
-- The torn transaction is the teller's.
abbrev pub RepliesBy : {I O : Type 0} → Terms → StreamSpec I O → ℕ → Option Draft → List ℕ
    → List (SessionOut I O) → List (SessionOut I O) → List Entry → Type 0
RepliesBy {I} {O} terms io opening torn authors opened sessions h =
    (teller : ℕ)
    × EachOf (λ n (old new : SessionOut I O).
    Replies (setting_of terms h (stop_of torn) (teller == n)) opening
    (run_from io old.source old.sink new))
    0 opened sessions
    × IfSome torn (λ draft. draft.authors ≡ authors ++ teller ∷ [])

-- no count rose but that of the object whose fault ended the session
pub record CountsBy {I O : Type 0} (io : StreamSpec I O) (old new : SessionOut I O) : Type 0 where
  pub source : SourceCount new.end (io.source_faults old.source) (io.source_faults new.source)
  pub sink : SinkCount new.end (io.sink_faults old.sink) (io.sink_faults new.sink)

-- The run ended, and its trees with it.
-- What is reported is of the first session that ended early, else of the log, else of the trees.
pub record EndsWith {I O D : Type 0} {g : _} (disks : DiskSpec D) (merge_at : ℕ)
    (names : List (List ℕ)) (begun : Trees D g) (outcome : Outcome I O D) : Type 0 where
  pub end : WorkEnd
  pub says : SaysWhy
      (why_of (first_early names (map (λ (s : SessionOut I O). s.end) outcome.sessions.items))
      (stop_of outcome.torn) end)
      outcome.status (string_bytes outcome.line)
  pub last : SnapshotModel
  pub last_is : outcome.last ≡ Some last
  pub segments : D
  pub segments_is : outcome.segments ≡ Some segments
  pub trees : LeavesTrees disks merge_at begun end last segments

-- the sessions ran
pub record HaveEnded {I O D : Type 0} {g : _} (io : StreamSpec I O) (disks : DiskSpec D)
    (merge_at : ℕ) (names : List (List ℕ)) (opened : List (SessionOut I O)) (begun : Trees D g)
    (outcome : Outcome I O D) : Type 0 where
  pub each : EachOf (λ n (old new : SessionOut I O). CountsBy io old new) 0 opened
      outcome.sessions.items
  pub ends : EndsWith disks merge_at names begun outcome
  pub authors : IsSome outcome.authors
  pub both : HasDisks outcome
