-- Maps that are made stay counted, with those of every further item and entity.
use Rattle.std.proofs.Common.{◌≡◌, ℕ, zero, suc, ◌+◌, ◌≤◌, max, Bool, true, false, List, [], ◌∷◌, ◌++◌, fold, arith}
use Rattle.pull_model.specs.Patterns.{Pattern, Item, Below, usual, under, times, unlimited, everything, one_less}
use Rattle.pull_model.specs.Found.{Db}
use Rattle.pull_model.specs.Made.{Made, Inside, maps_made, depth_made}
use Rattle.pull_model.specs.Tree.{tree, pull_below, unless_met, is_on, has_key, key_of_item, unless_there, with_item}

abbrev Grows : Inside → Inside → Type 0
Grows before after = (before.maps ≤ after.maps) × (before.depth ≤ after.depth)

one_item : (made : ℕ → Item → Made) (before : Inside) (p : ℕ × Item) → Grows before (with_item made before p)
one_item made before p = go (has_key before.pairs (key_of_item p.1))
  where
    go : (b : Bool) → Grows before (unless_there b made before p.0 p.1)
    go true = (omega arith, omega arith)
    go false = (omega arith, omega arith)

pub items_grow : (made : ℕ → Item → Made) (before : Inside) (list : List (ℕ × Item)) → Grows before (fold (with_item made) before list)
items_grow made before [] = (omega arith, omega arith)
items_grow made before (p ∷ list) =
    let now = one_item made before p in
    let later = items_grow made (with_item made before p) list in
    (omega (arith, now.0, later.0), omega (arith, now.1, later.1))

pub lists_add : (before more : List Made)
    → (maps_made (before ++ more) ≡ maps_made before + maps_made more)
    × (depth_made (before ++ more) ≡ max (depth_made before) (depth_made more))
lists_add [] more = (omega arith, omega arith)
lists_add (m ∷ before) more =
    let rest = lists_add before more in
    (omega (arith, rest.0), omega (arith, rest.1))

-- ---- each entity

abbrev Counts : Made → Type 0
Counts made = (1 ≤ made.maps) × (1 ≤ made.depth)

tree_counts : (room : ℕ) (db : Db) (pattern : Pattern) (above : List ℕ) (e : ℕ) → Counts (tree room db pattern above e)
tree_counts zero db pattern above e = (omega arith, omega arith)
tree_counts (suc room) db pattern above e = (omega arith, omega arith)

module _ (room : ℕ) (db : Db) where
  unless_met_counts : (pattern : Pattern) (path : List ℕ) (n : ℕ) → Counts (unless_met (is_on path n) (tree room db) pattern path n)
  unless_met_counts pattern path n = go (is_on path n)
    where
      go : (b : Bool) → Counts (unless_met b (tree room db) pattern path n)
      go true = (omega arith, omega arith)
      go false = tree_counts room db pattern path n

  pub told_counts : (pattern : Pattern) (place : ℕ) (path : List ℕ) (parts : Bool) (below : Below) (n : ℕ)
      → Counts (pull_below (tree room db) pattern place path parts below n)
  told_counts pattern place path true usual n = unless_met_counts everything path n
  told_counts pattern place path false usual n = (omega arith, omega arith)
  told_counts pattern place path parts (under inner) n = tree_counts room db inner [] n
  told_counts pattern place path parts (times k) n = unless_met_counts (one_less place pattern) path n
  told_counts pattern place path parts unlimited n = unless_met_counts pattern path n
