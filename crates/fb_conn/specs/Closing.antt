-- What the closed database says of a session's seat.
-- This project's own choice.
use Rattle.std.specs.Prelude.{◌≡◌, ◌⊎◌, ℕ, ◌==◌, Bool, false, List, ◌++◌, Option, Some, None}
use Rattle.std.specs.Prelude.{option_map}
use Rattle.fb_values.specs.declared.facts.Entry.{Entry}
use Rattle.fb_core.specs.declared.shared.CoreParts.{CoreParts}
use Rattle.fb_core.specs.Worlds.{commits_behind}
use Rattle.fb_desk.specs.Desks.{State}
use Rattle.fb_conn.specs.declared.home.Stop.{Stop}

abbrev pub at_of : Stop → ℕ
at_of stop = stop.at

-- the session k is the author of the stop
abbrev pub is_author : ℕ → Option Stop → Bool
is_author k None = false
is_author k (Some stop) = stop.author == k

-- What session k knew is so: the history goes on from what it had seen,
-- its commits are where the authors of the entries after the opening name it,
-- and where it was notified of a stop, that is the one that there was.
pub record IsTakenIn (core : CoreParts) (opening : ℕ) (stopped : Option Stop) (k : ℕ) (s : State)
    : Type 0 where
  pub more : List Entry
  pub entries : core.snapshot.entries ≡ s.entries ++ more
  pub commits : s.commits ≡ commits_behind opening k core.authors
  pub stop : (s.stop ≡ None)
      ⊎ ((s.stop ≡ option_map at_of stopped) × (s.teller ≡ is_author k stopped))
