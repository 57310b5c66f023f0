-- A history with a composite, for the examples. This project's own choice.
use Rattle.std.specs.Prelude.{ℕ, ◌++◌, pos, true, false, List, [], ◌∷◌, codes, Option, Some}
use Rattle.fb_values.specs.declared.facts.Datom.{Datom}
use Rattle.fb_values.specs.declared.facts.Entry.{Entry}
use Rattle.fb_values.specs.declared.facts.Value.{Value}
use Rattle.fb_values.specs.declared.facts.Value.TheVariants.{Long}
use Rattle.fb_numbers.specs.Numbers.{user_entity, cardinality_one}
use Rattle.fb_model.specs.FirstEntry.{first_entry}
use Rattle.fb_model.specs.Samples.{datom, entry_of, makes_attribute}
use Rattle.view_model.specs.Window.{whole}
use Rattle.tx_refusals.specs.declared.reasons.Bar.{Bar}
use Rattle.tx_model.specs.Step.{Guard}
use Rattle.tuple_model.specs.UniqueTuples.{bars_unique}
use Rattle.tuple_model.specs.Tuples.{Tuple, Row, tuples_seen}

-- `:n/a` and `:n/b`
abbrev pub a : ℕ
a = user_entity 1

abbrev pub b : ℕ
b = user_entity 2

abbrev pub long : ℕ → Option Value
long n = Some (Long (pos n))

abbrev pub has : ℕ → ℕ → ℕ → ℕ → Datom
has t e attribute n = datom e attribute (Long (pos n)) t true

abbrev pub loses : ℕ → ℕ → ℕ → ℕ → Datom
loses t e attribute n = datom e attribute (Long (pos n)) t false

-- the composite of both
abbrev pub a_and_b : List ℕ
a_and_b = a ∷ b ∷ []

-- transaction 1 installs both attributes
abbrev installed : List Datom
installed =
    makes_attribute 1 a (codes "n/a") cardinality_one
    ++ makes_attribute 1 b (codes "n/b") cardinality_one

-- by transaction 2 user entity 3 has 1 and 2, user entity 4 has 1 alone, and user entity 5 has 0
-- and 9
abbrev numbers : List Datom
numbers =
    has 2 (user_entity 3) a 1
    ∷ has 2 (user_entity 3) b 2
    ∷ has 2 (user_entity 4) a 1
    ∷ has 2 (user_entity 5) a 0
    ∷ has 2 (user_entity 5) b 9
    ∷ []

-- both attributes, and the three entities with numbers
abbrev pub numbered : List Entry
numbered = first_entry ∷ entry_of 1 installed ∷ entry_of 2 numbers ∷ []

-- and user entity 4 has 1 and 2 as well
abbrev pub paired : List Entry
paired = numbered ++ entry_of 3 (has 3 (user_entity 4) b 2 ∷ []) ∷ []

-- a guard on both attributes, and what it answers of changes
abbrev pub bars_named : Guard
bars_named = bars_unique ((codes "n/a" ∷ codes "n/b" ∷ []) ∷ [])

abbrev pub bars_both : List Datom → Option Bar
bars_both changes = bars_named numbered changes

-- by `:n/a` and `:n/b`
abbrev pub tuples_now : List Row
tuples_now = tuples_seen numbered whole [] a_and_b

abbrev pub row : Tuple → ℕ → Row
row tuple e = record { tuple = tuple; e = e }
