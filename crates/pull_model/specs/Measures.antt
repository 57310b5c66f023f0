-- Words that the laws of pulls use: keys in order, paths, and how far a tree can go.
-- This project's own choice.
use Rattle.std.specs.Prelude.{◌≡◌, ℕ, ◌+◌, ◌*◌, Bool, true, not, ◌&&◌, List, [], ◌∷◌, ◌++◌, map}
use Rattle.std.specs.Prelude.{filter, filter_map, length, max, nat_eq, ◌⊎◌, ⊤}
use Rattle.edn_model.specs.Form.{Form}
use Rattle.fb_values.specs.declared.facts.Datom.{Datom}
use Rattle.fb_model.specs.Schema.{entity_in}
use Rattle.pull_model.specs.Patterns.{Pattern, no_items, item, Item, attribute, Below, under}
use Rattle.pull_model.specs.Found.{Db}
use Rattle.pull_model.specs.Tree.{is_on}

-- the first forms are the others in their order, some of them left out
abbrev pub AreInOrder : List Form → List Form → Type 0
AreInOrder [] others = ⊤
AreInOrder (k ∷ ks) [] = ⊥
AreInOrder (k ∷ ks) (other ∷ others) =
    ((k ≡ other) × AreInOrder ks others) ⊎ AreInOrder (k ∷ ks) others

-- no entity is on the path twice
abbrev pub is_path : List ℕ → Bool
is_path [] = true
is_path (n ∷ path) = not (is_on path n) && is_path path

-- the database value without the facts of an attribute
abbrev pub without_attribute : ℕ → Db → Db
without_attribute a db =
    record { schema = db.schema; seen = filter (λ d. not (nat_eq d.a a)) db.seen }

-- ---- how far a tree can go

-- how many patterns are one inside another
abbrev mutual
  pub nesting : Pattern → ℕ
  nesting no_items = 0
  nesting (item i rest) = max (nesting_of i) (nesting rest)

  pub nesting_of : Item → ℕ
  nesting_of (attribute name options below) = nesting_below below
  nesting_of i = 0

  pub nesting_below : Below → ℕ
  nesting_below (under pattern) = nesting pattern + 1
  nesting_below below = 0

-- the entities of the facts, and those that they refer to
abbrev pub entities_of : List Datom → List ℕ
entities_of facts = map (λ d. d.e) facts ++ filter_map (λ d. entity_in d.v) facts

-- each pattern is left before an entity is met again
abbrev pub most_levels : Db → Pattern → ℕ
most_levels db pattern = (length (entities_of db.seen) + 2) * (nesting pattern + 1)
