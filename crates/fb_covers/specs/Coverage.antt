-- Which attributes each index holds.
-- Restates Indexes of Datomic's documentation: EAVT and AEVT hold all datoms, AVET those of indexed
-- and unique attributes, VAET those of references.
use Rattle.std.specs.Prelude.{ℕ, Bool, true, List, ◌==◌, IsTrue}
use Rattle.std.specs.List.{list_any}
use Rattle.fb_values.specs.declared.indexes.Order.{Order}
use Rattle.fb_values.specs.declared.indexes.Order.TheVariants.{Eavt, Aevt, Avet, Vaet}

-- the attributes of AVET, and those of VAET
pub record Coverage : Type 0 where
  pub avet : List ℕ
  pub vaet : List ℕ

-- the order's index holds the attribute
abbrev pub covers : Coverage → Order → ℕ → Bool
covers c Eavt a = true
covers c Aevt a = true
covers c Avet a = list_any (λ b. a == b) c.avet
covers c Vaet a = list_any (λ b. a == b) c.vaet

-- the order's index holds by the newer coverage each attribute that it holds by the older one
abbrev pub StaysIn : Order → Coverage → Coverage → Type 0
StaysIn order older newer = (a : ℕ) → IsTrue (covers older order a) → IsTrue (covers newer order a)
