-- Entries of new entities, and live lists of them.
-- This project's own choice.
use Rattle.std.specs.Prelude.{◌≡◌, ◌+◌, ◌<◌, ◌≤◌, ◌⊎◌, ℕ, List, Contains, IsTrue}
use Rattle.std.specs.List.{All}
use Rattle.fb_values.specs.declared.facts.Datom.{Datom}
use Rattle.fb_values.specs.declared.indexes.Order.{Order}
use Rattle.fb_values.specs.declared.indexes.Order.TheVariants.{Eavt}
use Rattle.fb_values.specs.Lists.{Lists, list_in}
use Rattle.fb_values.specs.Rising.{IsRising}
use Rattle.fb_covers.specs.Coverage.{Coverage}
use Rattle.live_index.specs.Growth.{is_held}

abbrev pub transaction_entity : ℕ → ℕ
transaction_entity n = 13194139533312 + n

abbrev pub user_entity : ℕ → ℕ
user_entity n = 17592186044416 + n

-- the n-th transaction says it, of its own entity or of the n-th user entity
pub record IsOf (n : ℕ) (d : Datom) : Type 0 where
  pub t : d.t ≡ n
  pub e : (d.e ≡ transaction_entity n) ⊎ (d.e ≡ user_entity n)

-- such datoms, in the order of an entry
pub record IsEntry (n : ℕ) (ds : List Datom) : Type 0 where
  pub of : (d : Datom) → Contains ds d → IsOf n d
  pub rising : IsRising Eavt ds

-- the datom stands in EAVT before those that the entity has from the attribute on
abbrev pub IsUpto : ℕ → ℕ → Datom → Type 0
IsUpto e a d = (d.e < e) ⊎ ((d.e ≡ e) × (d.a < a))

-- the datom stands in EAVT behind those that the entity has below the attribute
abbrev pub IsFrom : ℕ → ℕ → Datom → Type 0
IsFrom e a d = (e < d.e) ⊎ ((e ≡ d.e) × (a ≤ d.a))

pub record IsEntryUpto (n e a : ℕ) (ds : List Datom) : Type 0 where
  pub entry : IsEntry n ds
  pub upto : (d : Datom) → Contains ds d → IsUpto e a d

-- the list rises, has attributes that the index holds alone, and is of entries before the n-th
pub record IsBefore (coverage : Coverage) (n : ℕ) (order : Order) (ds : List Datom) : Type 0 where
  pub rising : IsRising order ds
  pub held : All (λ d. IsTrue (is_held coverage order d)) ds
  pub older : (d : Datom) → Contains ds d → (m : ℕ) × (m < n) × IsOf m d

unfoldable pub LiveIsBefore : Coverage → ℕ → Lists → Type 0
LiveIsBefore coverage n live = (order : Order) → IsBefore coverage n order (list_in live order)
