-- The groups of datoms that lie in the order of a law, one after another.
-- This project's own choice.
use Rattle.std.specs.Prelude.{ℕ, Bool, true, false, ◌&&◌, List, [], ◌∷◌, if◌then◌else◌}
use Rattle.std.specs.Prelude.{Option, Some, None}
use Rattle.fb_values.specs.declared.facts.Datom.{Datom}
use Rattle.log_sweep.specs.declared.law.Law.{Law}
use Rattle.log_sweep.specs.Groups.{alike, allows, stands, is_at}

-- the first of the datoms is of the group
abbrev pub joins : Law → Datom → List Datom → Bool
joins law d [] = false
joins law d (next ∷ ds) = alike law d next

-- how many of the next datom's group stand before it, where the law allows this one
abbrev pub stepped : Law → List Datom → ℕ → Datom → List Datom → Option ℕ
stepped law schema n d behind =
    if allows law schema n d (joins law d behind && is_at d.t behind)
    then Some (if joins law d behind then stands n d else 0) else None

abbrev pub keeps_swept : Law → List Datom → ℕ → List Datom → Bool
keeps_swept law schema n [] = true
keeps_swept law schema n (d ∷ ds) =
    allows law schema n d (joins law d ds && is_at d.t ds)
    && keeps_swept law schema (if joins law d ds then stands n d else 0) ds
