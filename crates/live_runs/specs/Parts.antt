-- A list of members in parts.
-- This project's own choice.
use Rattle.std.specs.Prelude.{◌≡◌, ℕ, ◌+◌, ◌<◌, ◌≤◌, List, ◌++◌, length, map, slice_index, [], ◌∷◌, Option, Some, None}
use Rattle.std.specs.List.{All, flat_map, slice_get}
use Rattle.fb_values.specs.declared.facts.Datom.{Datom}
use Rattle.fb_values.specs.declared.indexes.Order.{Order}
use Rattle.fb_search.specs.Places.{place_of, probe_of}
use Rattle.live_runs.specs.declared.members.Change.{Change}
use Rattle.live_runs.specs.declared.members.Member.{Member}
use Rattle.live_runs.specs.Members.{changing, datom_of, held_by}
use Rattle.live_runs.specs.declared.parts.Part.{Part}
use Rattle.live_runs.specs.declared.parts.TheConstants.{MOST}

abbrev pub members_in : Part → List Member
members_in p = p.members.items

abbrev pub members_of : List Part → List Member
members_of parts = flat_map members_in parts

-- some members, at most so many, and the first of them once more
pub record IsPart (p : Part) : Type 0 where
  pub first : slice_get (members_in p) 0 ≡ Some p.first
  pub short : length (members_in p) ≤ MOST

abbrev pub sizes : List Part → List ℕ
sizes parts = map (λ p. length (members_in p)) parts

-- two neighbours have more members together than a part may have
abbrev pub AreFull : List Part → Type 0
AreFull parts = (k : ℕ) → k + 1 < length parts
    → MOST < slice_index (sizes parts) k + slice_index (sizes parts) (k + 1)

pub record AreParts (parts : List Part) (len : ℕ) : Type 0 where
  pub each : All IsPart parts
  pub full : AreFull parts
  pub len_is : len ≡ length (members_of parts)

-- the members of both in one part, or there is no room for them
abbrev pub IsJoined : Part → Part → Option Part → Type 0
IsJoined first second None = MOST < length (members_in first) + length (members_in second)
IsJoined first second (Some both) =
    IsPart both × (members_in both ≡ members_in first ++ members_in second)

-- how many of the changes come before the first of the parts, or all
abbrev pub upto_next : Order → List Datom → List Part → List Change → ℕ
upto_next order table [] cs = length cs
upto_next order table (p ∷ rest) cs =
    place_of (probe_of order (datom_of table p.first.number)) (held_by changing table cs)
