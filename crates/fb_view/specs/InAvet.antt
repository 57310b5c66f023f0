-- Datoms as AVET has them.
-- Restates Indexes of Datomic's documentation (AVET).
use Rattle.std.specs.Prelude.{◌↔◌, List, Contains, IsTrue}
use Rattle.fb_values.specs.declared.facts.Datom.{Datom}
use Rattle.fb_values.specs.declared.indexes.Order.TheVariants.{Avet}
use Rattle.fb_covers.specs.Coverage.{Coverage}
use Rattle.fb_values.specs.Rising.{IsRising}
use Rattle.live_index.specs.Growth.{is_held}

-- the list rises in AVET, and has those of the datoms whose attribute AVET holds
pub record IsInAvet (coverage : Coverage) (datoms list : List Datom) : Type 0 where
  pub rising : IsRising Avet list
  pub members : (d : Datom)
      → Contains list d ↔ (Contains datoms d × IsTrue (is_held coverage Avet d))
