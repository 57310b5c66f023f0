-- Parts of a log.
-- Restates the Log API of Datomic's documentation (tx-range).
use Rattle.std.specs.Prelude.{ℕ, ◌-◌, List, take, drop}
use Rattle.fb_values.specs.declared.facts.Entry.{Entry}

-- the entries from one place on and before another
abbrev pub part : List Entry → ℕ → ℕ → List Entry
part h from to = take (to - from) (drop from h)
