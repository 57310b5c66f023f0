-- The attribute that a reversed name means.
-- Datomic, Pull (reverse lookup).
use Rattle.std.specs.Prelude.{ℕ, List, if◌then◌else◌, Option, Some, None}
use Rattle.tx_model.specs.Asks.{without_underscore}
use Rattle.pull_model.specs.Patterns.{is_reversed}

-- its keyword, where the name is reversed
abbrev pub forward_of : List ℕ → Option (List ℕ)
forward_of name = if is_reversed name then Some (without_underscore name) else None
