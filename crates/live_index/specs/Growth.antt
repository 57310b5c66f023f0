-- What an entry adds to the lists of the live index.
-- Restates Indexes of Datomic's documentation.
-- That AVET is refilled where an attribute gets an index is this project's own choice.
use Rattle.std.specs.Prelude.{◌≡◌, ◌↔◌, ◌⊎◌, ◌&&◌, Bool, false, List, Contains, IsTrue, Option}
use Rattle.std.specs.Prelude.{if◌then◌else◌}
use Rattle.std.specs.Option.{option_map_or}
use Rattle.std.specs.Ordering.{is_eq}
use Rattle.fb_values.specs.declared.facts.Datom.{Datom}
use Rattle.fb_values.specs.declared.indexes.Order.{Order}
use Rattle.fb_values.specs.declared.indexes.Order.TheVariants.{Avet}
use Rattle.fb_values.specs.Orders.{key_cmp}
use Rattle.fb_values.specs.OrderLaws.{IsAtOnePlace}
use Rattle.fb_covers.specs.Coverage.{Coverage, covers}
use Rattle.fb_values.specs.Rising.{IsRising}
use Rattle.fb_model.specs.Rising.{put_in_order}

-- two datoms of one entity, attribute, value and t are one datom
abbrev pub HasNoTwins : List Datom → Type 0
HasNoTwins ds = (x y : Datom) → Contains ds x → Contains ds y → IsAtOnePlace x y → x ≡ y

-- the order's index holds the datom's attribute
abbrev pub is_held : Coverage → Order → Datom → Bool
is_held coverage order d = covers coverage order d.a

-- the datom is of the list before, of the entry, or of what AVET is refilled with
abbrev pub IsOffered : Order → List Datom → List Datom → List Datom → Datom → Type 0
IsOffered order old refill datoms d =
    (Contains old d ⊎ ((order ≡ Avet) × Contains refill d)) ⊎ Contains datoms d

-- the strictly rising list of the offered datoms whose attribute the order's index holds
pub record IsGrown (order : Order) (coverage : Coverage) (old refill datoms new : List Datom)
    : Type 0 where
  pub rising : IsRising order new
  pub members : (d : Datom)
      → Contains new d ↔ (IsOffered order old refill datoms d × IsTrue (is_held coverage order d))

-- a datom was found, and it has this datom's key
abbrev pub is_twin : Order → Datom → Option Datom → Bool
is_twin order d found = option_map_or (λ x. is_eq (key_cmp order x d)) found false

-- the order takes the datom: it is an addition, and the order's index holds its attribute
abbrev pub takes : Coverage → Order → Datom → Bool
takes coverage order d = d.added && is_held coverage order d

-- the list with a datom, where the order takes it
abbrev pub with_taken : Coverage → Order → List Datom → Datom → List Datom
with_taken coverage order ds d = if takes coverage order d then put_in_order order d ds else ds
