-- Sound worlds: what each world is that a database may come to, and what each event leaves so.
-- This project's own choice.
use Rattle.std.specs.Prelude.{◌≡◌, ℕ, ◌+◌, ◌<◌, ◌≤◌, List, Some, All, Contains}
use Rattle.std.specs.List.Sorted.{IsStrictlyIncreasing}
use Rattle.fb_values.specs.declared.facts.Entry.{Entry}
use Rattle.fb_model.specs.History.{basis}
use Rattle.fb_model.specs.Lawful.{IsLawful, IsLawfulAfter}
use Rattle.event_model.specs.World.{Session, Stop, World}

-- the session knows of no more than there is, has seen its own transactions, and made them since
-- the opening, one after another
pub record IsSoundSession (opening last : ℕ) (session : Session) : Type 0 where
  pub mailed : session.mailed ≤ last
  pub snap : session.snap ≤ last
  pub seen : All (λ t. t ≤ session.snap) session.commits
  pub made_here : All (λ t. opening < t) session.commits
  pub rising : IsStrictlyIncreasing session.commits

-- the t is among the commits of one session, and of no other
pub record HasOneAuthor (sessions : ℕ → Session) (t : ℕ) : Type 0 where
  pub author : ℕ
  pub is_theirs : Contains (sessions author).commits t
  pub of_no_other : (other : ℕ) → Contains (sessions other).commits t → other ≡ author

-- the torn entry may follow the history
pub record IsSoundStop (h : List Entry) (stop : Stop) : Type 0 where
  pub next_t : stop.t ≡ basis h + 1
  pub lawful : IsLawfulAfter h stop.torn

pub record IsSound (world : World) : Type 0 where
  pub lawful : IsLawful world.history
  pub opening : world.opening ≤ basis world.history
  pub stop : (stop : Stop) → world.stop ≡ Some stop → IsSoundStop world.history stop
  pub adopted : world.adopted ≤ basis world.history
  pub kept : All (λ c. c ≤ basis world.history) world.kept
  pub merging : (c : ℕ) → world.merging ≡ Some c → c ≤ basis world.history
  pub sessions : (s : ℕ) → IsSoundSession world.opening (basis world.history) (world.sessions s)
  pub authors : (t : ℕ)
      → world.opening < t → t ≤ basis world.history → HasOneAuthor world.sessions t
