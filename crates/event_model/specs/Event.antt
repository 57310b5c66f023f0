-- What may happen to a database that many sessions share, and what each event makes of a world.
-- This project's own choice.
use Rattle.std.specs.Prelude.{◌≡◌, ℕ, ◌+◌, ◌≤◌, ◌⊎◌, ℤ, Bool, true, false, max, List, [], ◌∷◌, ◌++◌}
use Rattle.std.specs.Prelude.{Some, None, Contains}
use Rattle.edn_model.specs.Form.{Form}
use Rattle.fb_values.specs.declared.facts.Entry.{Entry}
use Rattle.fb_model.specs.History.{basis}
use Rattle.tx_refusals.specs.declared.reasons.Refusal.{Refusal}
use Rattle.tx_model.specs.Step.{Guard, refused, accepted, step}
use Rattle.event_model.specs.World.{Session, Stop, World, opened, with_session}

-- sessions are numbered, and a form is the data of a transaction, with the reading of the clock
-- after it
pub data Event : Type 0 where
  -- a transaction is recorded, is refused, or its append to the log fails
  accept : ℕ → Form → ℤ → Event
  refuse : ℕ → Form → Event
  fail : ℕ → Form → ℤ → Event
  -- a transaction is turned away after a failed append
  stopped : ℕ → Event
  -- a snapshot is mailed to a session; it looks at its mail, or not; it asks for the latest value
  mail : ℕ → Event
  glance : ℕ → Event
  held : ℕ → Event
  sync : ℕ → Event
  -- a merge begins, its root is in the file, its trees are adopted, or it is given up
  begin : Event
  keep : Event
  adopt : Event
  abandon : Event
  -- the process ends, and the database is opened again
  crash : Event

-- ---- what becomes of a session

abbrev pub with_snap : ℕ → Session → Session
with_snap b session = record session { snap = b }

abbrev pub with_mail : ℕ → Session → Session
with_mail b session = record session { mailed = b }

-- the session made a transaction, and has the snapshot after it
abbrev pub with_commit : ℕ → Session → Session
with_commit t session = record session { snap = t; commits = session.commits ++ t ∷ [] }

-- mail that is older than what it has changes nothing
abbrev pub at_its_mail : Session → Session
at_its_mail session = with_snap (max session.snap session.mailed) session

-- ---- what becomes of a world

-- the session has a snapshot of the latest value
abbrev pub synced : ℕ → World → World
synced s world = with_session s (with_snap (basis world.history)) world

-- the session's transaction is recorded
abbrev pub committed : ℕ → Entry → World → World
committed s entry world =
    with_session s (with_commit entry.t) (record world { history = world.history ++ entry ∷ [] })

-- the append of the next entry failed
abbrev pub stopped_at : Entry → World → World
stopped_at entry world =
    record world { stop = Some (record { t = basis world.history + 1; torn = entry }) }

-- ---- crashes

-- what the log has after a crash: the history, and perhaps the entry whose append failed
abbrev pub IsLeftOf : World → List Entry → Type 0
IsLeftOf world h =
    (h ≡ world.history)
    ⊎ ((stop : Stop) × (world.stop ≡ Some stop) × (h ≡ world.history ++ stop.torn ∷ []))

-- the trees of a root that is kept and agrees with the history, or none
abbrev pub IsFoundIn : List ℕ → List Entry → ℕ → Type 0
IsFoundIn kept h c = (c ≡ 0) ⊎ (Contains kept c × (c ≤ basis h))

-- which roots the file has after a crash: some at its end may be lost, or all, and an opening that
-- makes room leaves the one alone whose trees it adopts
abbrev pub AreRootsLeft : List ℕ → ℕ → List ℕ → Type 0
AreRootsLeft kept adopted left =
    ((lost : List ℕ) × (kept ≡ left ++ lost)) ⊎ (Contains kept adopted × (left ≡ adopted ∷ []))

pub record Crashes (before after : World) : Type 0 where
  pub log : IsLeftOf before after.history
  pub kept : AreRootsLeft before.kept after.adopted after.kept
  pub adopted : IsFoundIn after.kept after.history after.adopted
  pub is_opened : after ≡ opened after.history after.adopted after.kept

-- ---- events

-- the event may happen to the one world, and makes the other of it:
-- no refusal depends on a clock, so any reading will do
abbrev pub Happens : Guard → World → Event → World → Type 0
Happens guard before (accept s asked reading) after =
    (entry : Entry) × (tempids : List (List ℕ × ℕ)) × (before.stop ≡ None)
    × (step before.history asked reading guard ≡ accepted entry tempids)
    × (after ≡ committed s entry before)
Happens guard before (refuse s asked) after =
    (reading : ℤ) × (refusal : Refusal) × (before.stop ≡ None)
    × (step before.history asked reading guard ≡ refused refusal)
    × (after ≡ synced s before)
Happens guard before (fail s asked reading) after =
    (entry : Entry) × (tempids : List (List ℕ × ℕ)) × (before.stop ≡ None)
    × (step before.history asked reading guard ≡ accepted entry tempids)
    × (after ≡ stopped_at entry (synced s before))
Happens guard before (stopped s) after =
    (stop : Stop) × (before.stop ≡ Some stop) × (after ≡ synced s before)
Happens guard before (mail s) after =
    after ≡ with_session s (with_mail (basis before.history)) before
Happens guard before (glance s) after = after ≡ with_session s at_its_mail before
Happens guard before (held s) after = after ≡ before
Happens guard before (sync s) after = after ≡ synced s before
Happens guard before begin after =
    (before.merging ≡ None) × (after ≡ record before { merging = Some (basis before.history) })
Happens guard before keep after =
    (c : ℕ) × (before.merging ≡ Some c) × (after ≡ record before { kept = before.kept ++ c ∷ [] })
Happens guard before adopt after =
    (c : ℕ)
    × (before.merging ≡ Some c)
    × Contains before.kept c
    × (after ≡ record before { adopted = c; merging = None })
Happens guard before abandon after =
    (c : ℕ) × (before.merging ≡ Some c) × (after ≡ record before { merging = None })
Happens guard before crash after = Crashes before after

-- ---- kinds of events

abbrev pub is_crash : Event → Bool
is_crash crash = true
is_crash event = false

abbrev pub is_of_merge : Event → Bool
is_of_merge begin = true
is_of_merge keep = true
is_of_merge adopt = true
is_of_merge abandon = true
is_of_merge event = false
