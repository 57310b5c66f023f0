-- Which triples are recorded, and as what.
-- Datomic, Transaction Data.
use Rattle.std.specs.Prelude.{ℕ, Bool, not, ◌||◌, is_some, if◌then◌else◌}
use Rattle.fb_values.specs.declared.facts.Datom.{Datom}
use Rattle.tx_asks.specs.declared.triples.Triple.{Triple}

-- it is added and does not hold, or is retracted in some way and holds
abbrev pub is_change : Triple → Bool
is_change triple =
    if triple.holds then is_some triple.retracted || is_some triple.swept || is_some triple.replaced
    else is_some triple.added

abbrev pub datom_of : ℕ → Triple → Datom
datom_of t triple =
    record { e = triple.e; a = triple.a; v = triple.v; t = t; added = not triple.holds }
