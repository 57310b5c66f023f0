-- The state of a pull, as the definitions have it.
-- Datomic, Pull.
use Rattle.std.specs.Prelude.{◌≡◌, ℕ, List, ◌∷◌, drop}
use Rattle.fb_values.specs.declared.facts.Datom.{Datom}
use Rattle.fb_db.specs.declared.db.Db as view
use Rattle.pull_model.specs.Found.{Db}
use Rattle.pull_model.specs.Made.{Made, Inside}
use Rattle.pull_model.specs.Patterns.{Item, attribute, no_options, usual}
use Rattle.pull_model.specs.Tree.{tree, made_of, inside, with_item}
use Rattle.pull_pattern.specs.View.{model_pattern}
use Rattle.fb_pull.specs.declared.trees.Stand.{Stand}
use Rattle.fb_pull.specs.Near.{IsNear}

-- the path begins with the entity
abbrev pub IsAt : Stand → Type 0
IsAt at = at.path ≡ at.e ∷ drop 1 at.path

-- what is at hand there is of the entity
abbrev pub HasNear : {S : Type 0} → view.Db S → (Datom → Type 0) → Stand → Type 0
HasNear db Selects at = IsNear db Selects at.e at.near

-- what an item at a place makes there
abbrev pub made_at : Stand → Db → ℕ → Item → Made
made_at at facts =
    made_of (tree at.limits.depth facts) facts (model_pattern at.pattern.now)
    (drop 1 at.path) at.e

-- the pairs before, and what the map there has under a name where nothing else is said of it
abbrev pub with_other : Stand → Db → Inside → ℕ → List ℕ → Inside
with_other at facts before place name =
    with_item (made_at at facts) before (place, attribute name no_options usual)

-- the pairs of the map there
abbrev pub inside_at : Stand → Db → Inside
inside_at at facts =
    inside (tree at.limits.depth facts) facts (model_pattern at.pattern.now)
    (drop 1 at.path) at.e
