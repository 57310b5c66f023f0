-- When a core is that of a database that many sessions share,
-- as the machine of worlds and events has it.
-- This project's own choice.
use Rattle.std.specs.Prelude.{◌≡◌, ℕ, ◌+◌, if◌then◌else◌, ◌==◌, List, [], ◌∷◌, length}
use Rattle.fb_model.specs.History.{basis}
use Rattle.event_model.specs.World.{World}
use Rattle.fb_core.specs.declared.shared.CoreParts.{CoreParts}

-- the t of the session's entries, where the authors are those of the entries after t
abbrev pub commits_behind : ℕ → ℕ → List ℕ → List ℕ
commits_behind t s [] = []
commits_behind t s (author ∷ authors) =
    if s == author then (t + 1) ∷ commits_behind (t + 1) s authors
    else commits_behind (t + 1) s authors

pub record IsCoreOf (core : CoreParts) (world : World) : Type 0 where
  pub history : world.history ≡ core.snapshot.entries
  pub adopted : world.adopted ≡ core.snapshot.covered
  pub opening : basis world.history ≡ world.opening + length core.authors
  pub commits : (s : ℕ) → (world.sessions s).commits ≡ commits_behind world.opening s core.authors
