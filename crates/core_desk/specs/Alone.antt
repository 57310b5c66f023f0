-- When all that was written to a core since the opening is one session's.
-- This project's own choice.
use Rattle.std.specs.Prelude.{◌≡◌, ℕ, ◌-◌, List, length}
use Rattle.std.specs.List.{AllByRecursion}
use Rattle.fb_model.specs.History.{basis}
use Rattle.fb_core.specs.declared.shared.CoreParts.{CoreParts}
use Rattle.fb_core.specs.Worlds.{commits_behind}

-- the t of the last entry at the opening: each later one has an author
abbrev pub opening_of : CoreParts → ℕ
opening_of core = basis core.snapshot.entries - length core.authors

-- session 0 is the author of each entry since the opening, and these are its commits
pub record IsAlone (core : CoreParts) (commits : List ℕ) : Type 0 where
  pub by_session : AllByRecursion (λ author. author ≡ 0) core.authors
  pub commits_are : commits ≡ commits_behind (opening_of core) 0 core.authors
