-- A database that many sessions share, at one moment: its history, what each session has of it, and
-- how far its trees are.
-- This project's own choice.
use Rattle.std.specs.Prelude.{◌≡◌, ℕ, ◌≤◌, if◌then◌else◌, ◌==◌, List, [], Option, None, All}
use Rattle.fb_values.specs.declared.facts.Entry.{Entry}
use Rattle.fb_model.specs.History.{basis}
use Rattle.fb_model.specs.Lawful.{IsLawful}

pub record Session : Type 0 where
  -- the basis of the snapshot that was mailed to it
  pub mailed : ℕ
  -- the basis of the snapshot that it has
  pub snap : ℕ
  -- the t of its transactions since the opening, the first one first
  pub commits : List ℕ

-- an append to the log that failed: its t, and the entry, which the log may have or not
pub record Stop : Type 0 where
  pub t : ℕ
  pub torn : Entry

pub record World : Type 0 where
  pub history : List Entry
  -- the basis at the opening
  pub opening : ℕ
  -- where there is one, no other entry is recorded until the database is opened again
  pub stop : Option Stop
  -- the last t that the adopted trees are of
  pub adopted : ℕ
  -- the last t of each root that the file of segments has
  pub kept : List ℕ
  -- the basis at which a merge has begun
  pub merging : Option ℕ
  pub sessions : ℕ → Session

-- a database that has just been opened: each session has the latest value, and nothing is under way
abbrev pub opened : List Entry → ℕ → List ℕ → World
opened h adopted kept =
    record {
      history = h;
      opening = basis h;
      stop = None;
      adopted = adopted;
      kept = kept;
      merging = None;
      sessions = λ s. record { mailed = basis h; snap = basis h; commits = [] };
    }

pub record IsBeginning (world : World) : Type 0 where
  pub is_opened : world ≡ opened world.history world.adopted world.kept
  pub lawful : IsLawful world.history
  pub adopted : world.adopted ≤ world.opening
  pub kept : All (λ c. c ≤ world.opening) world.kept

-- ---- changes

-- the sessions, with one of them changed
abbrev pub changed : ℕ → (Session → Session) → (ℕ → Session) → ℕ → Session
changed s change sessions other = if other == s then change (sessions other) else sessions other

abbrev pub with_session : ℕ → (Session → Session) → World → World
with_session s change world = record world { sessions = changed s change world.sessions }
