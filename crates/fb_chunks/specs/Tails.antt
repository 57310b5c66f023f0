-- The end of a list, as links from new to old.
-- This project's own choice.
use Rattle.std.specs.Prelude.{◌≡◌, ℕ, ◌≤◌, List, [], length, Option, Some, None}
use Rattle.std.specs.Arc.{arc_value}
use Rattle.std.specs.Global.{Global}
use Rattle.std.specs.declared.sync.Arc.{Arc}
use Rattle.fb_chunks.specs.declared.chunks.TheConstants.{CHUNK}

-- the items up to a link, the oldest first
abbrev pub items_up_to : {X : Type 0} → Option (Arc (List X) Global) → List X
items_up_to None = []
items_up_to (Some link) = arc_value link

-- a link knows how many items there are up to it, which are at most a chunk's
pub record IsLink {X : Type 0} (items : List X) (len : ℕ) : Type 0 where
  pub counted : len ≡ length items
  pub short : length items ≤ CHUNK
