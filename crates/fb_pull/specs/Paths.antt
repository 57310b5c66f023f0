-- What led to an entity.
-- This project's own choice.
use denote.Ref.{Bor}
use Rattle.std.specs.Prelude.{ℕ, List, [], Option, Some, None}

-- the path above, where there is one
abbrev pub path_above : Option (Bor (List ℕ)) → List ℕ
path_above None = []
path_above (Some path) = path.now
