-- A list of datoms cut into pieces, and places in it.
-- This project's own choice.
use Rattle.std.specs.Prelude.{◌≡◌, ℕ, zero, suc, ◌+◌, List, [], ◌∷◌, ◌++◌, length, nat_lt}
use Rattle.std.specs.Prelude.{if◌then◌else◌}
use Rattle.fb_values.specs.declared.facts.Datom.{Datom}

-- the pieces end to end
abbrev pub joined : List (List Datom) → List Datom
joined [] = []
joined (chunk ∷ chunks) = chunk ++ joined chunks

-- the list begins with the datom
abbrev pub BeginsWith : List Datom → Datom → Type 0
BeginsWith [] first = ⊥
BeginsWith (d ∷ ds) first = d ≡ first

-- each piece has a datom, and these are the first ones
abbrev pub AreFirsts : List Datom → List (List Datom) → Type 0
AreFirsts [] [] = Unit {0}
AreFirsts [] (chunk ∷ chunks) = ⊥
AreFirsts (first ∷ firsts) [] = ⊥
AreFirsts (first ∷ firsts) (chunk ∷ chunks) = BeginsWith chunk first × AreFirsts firsts chunks

-- how many datoms come before a place: the number of a piece and of a datom in it.
-- All of them come before a place that does not exist.
abbrev pub chunk_rank : List (List Datom) → ℕ → ℕ → ℕ
chunk_rank [] k n = 0
chunk_rank (chunk ∷ chunks) zero n =
    if nat_lt n (length chunk) then n else length chunk + length (joined chunks)
chunk_rank (chunk ∷ chunks) (suc k) n = length chunk + chunk_rank chunks k n
