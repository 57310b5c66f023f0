-- The first places at which forms ask triples.
-- This project's own choice; the order of forms matters in refusals alone.
use Rattle.std.specs.Prelude.{ℕ, Bool, List, [], ◌∷◌, if◌then◌else◌, min, Option, Some, None}
use Rattle.tx_asks.specs.declared.triples.Triple.{Triple}

abbrev pub earlier : Option ℕ → Option ℕ → Option ℕ
earlier None other = other
earlier (Some m) None = Some m
earlier (Some m) (Some n) = Some (min m n)

-- in whatever way the triple is asked
abbrev pub asked_at : Triple → Option ℕ
asked_at t = earlier t.added (earlier t.retracted (earlier t.swept t.replaced))

-- as a triple
abbrev pub named_at : Triple → Option ℕ
named_at t = earlier t.added t.retracted

-- where that is recorded: as an addition of what does not hold, or as a retraction of what holds
abbrev pub recorded_at : Triple → Option ℕ
recorded_at t = if t.holds then earlier t.retracted (earlier t.swept t.replaced) else t.added

-- the first place of the triples that pass a test
abbrev pub first_where : (Triple → Bool) → (Triple → Option ℕ) → List Triple → Option ℕ
first_where passes place [] = None
first_where passes place (t ∷ ts) =
    earlier (if passes t then place t else None) (first_where passes place ts)
