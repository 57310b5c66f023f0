-- Ids in a list, each with its place there at hand.
-- This project's own choice.
use Rattle.std.specs.Prelude.{◌≡◌, ℕ, ◌<◌, ◌^◌, List, length, nat_eq, false, Some, None, All}
use Rattle.std.specs.Prelude.{slice_index}
use Rattle.std.specs.List.{IsDistinct}
use Rattle.std.specs.Ordering.{nat_cmp}
use Rattle.std.specs.BTreeMap.{BTreeMap, get}
use Rattle.log_model.specs.Nodes.{is_among}

-- no id is there twice, each is below 2^62, and the map has each one's place
pub record ArePlaced (ids : List ℕ) (places : BTreeMap ℕ ℕ) : Type 0 where
  pub distinct : IsDistinct nat_eq ids
  pub small : All (λ id. id < 2 ^ 62) ids
  pub none : (id : ℕ) → get nat_cmp places id ≡ None → is_among ids id ≡ false
  pub some : (id place : ℕ)
      → get nat_cmp places id ≡ Some place → (place < length ids) × (slice_index ids place ≡ id)
