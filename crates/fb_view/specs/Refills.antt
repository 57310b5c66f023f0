-- What AVET is refilled with where attributes get an index.
-- Restates Schema (altering :db/index) of Datomic's documentation;
-- that AVET is refilled from AEVT is this project's own choice.
use Rattle.std.specs.Prelude.{◌↔◌, ◌&&◌, not, ℕ, List, [], ◌++◌, Contains, IsTrue, filter, flat_map}
use Rattle.std.specs.Prelude.{if◌then◌else◌}
use Rattle.fb_values.specs.declared.facts.Datom.{Datom}
use Rattle.fb_values.specs.declared.indexes.Order.TheVariants.{Avet}
use Rattle.fb_covers.specs.Coverage.{Coverage, covers}
use Rattle.fb_facts.specs.FactLists.{is_under}
use Rattle.fb_schema.specs.Change.{is_gained}
use Rattle.seg_tree.specs.Nodes.{tree_datoms}
use Rattle.fb_view.specs.declared.growth.Older.{Older}
use Rattle.fb_view.specs.declared.growth.Recent.{Recent}

-- the attribute's datoms that no tree of AVET has:
-- the later ones, and where the trees do not hold it the older ones too
abbrev pub missed : Recent → Older → ℕ → List Datom
missed recent older a =
    filter (is_under a) recent.live.aevt
    ++ (if covers older.held Avet a then [] else filter (is_under a) (tree_datoms older.roots.aevt))

-- those of all the attributes
abbrev pub all_missed : Recent → Older → List ℕ → List Datom
all_missed recent older attributes = flat_map (missed recent older) attributes

-- they are the attributes that AVET holds by the second facts and not by the first
abbrev pub AreGained : List Datom → List Datom → List ℕ → Type 0
AreGained before after attributes =
    (a : ℕ) → IsTrue (is_gained Avet before after a) ↔ Contains attributes a

-- among them are all that AVET holds by the second facts and not by the first
abbrev pub HasGained : List Datom → List Datom → List ℕ → Type 0
HasGained before after attributes =
    (a : ℕ) → IsTrue (is_gained Avet before after a) → Contains attributes a

-- the trees' datoms of the attribute, where AVET holds it and no tree of AVET has them
abbrev pub gained_of : Coverage → Older → ℕ → List Datom
gained_of coverage older a =
    if not (covers older.held Avet a) && covers coverage Avet a
    then filter (is_under a) (tree_datoms older.roots.aevt) else []
