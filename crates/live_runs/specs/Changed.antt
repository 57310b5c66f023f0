-- A rising list of datoms without some of them and with others.
-- This project's own choice.
use Rattle.std.specs.Prelude.{◌≡◌, Bool, not, List, ◌++◌, filter, drop, Contains}
use Rattle.std.specs.List.{list_any}
use Rattle.std.specs.Ordering.{is_eq}
use Rattle.fb_values.specs.declared.facts.Datom.{Datom}
use Rattle.fb_values.specs.declared.indexes.Order.{Order}
use Rattle.fb_values.specs.declared.indexes.Probe.{Probe}
use Rattle.fb_values.specs.Orders.{key_cmp}
use Rattle.fb_values.specs.OrderLaws.{IsAtOnePlace}
use Rattle.fb_values.specs.Rising.{IsRising}
use Rattle.fb_model.specs.Rising.{in_order}
use Rattle.fb_search.specs.Places.{place_of}

-- two datoms of one entity, attribute, value and t are one datom
abbrev pub HasNoTwins : List Datom → Type 0
HasNoTwins ds = (x y : Datom) → Contains ds x → Contains ds y → IsAtOnePlace x y → x ≡ y

abbrev pub IsWithin : List Datom → List Datom → Type 0
IsWithin all ds = (d : Datom) → Contains ds d → Contains all d

-- one of the datoms has the datom's key
abbrev pub has_key_of : Order → List Datom → Datom → Bool
has_key_of order ds d = list_any (λ x. is_eq (key_cmp order x d)) ds

-- the list without those that go and with those that come
abbrev pub changed : Order → List Datom → List Datom → List Datom → List Datom
changed order gone come base =
    in_order order (filter (λ d. not (has_key_of order gone d)) base ++ come)

-- What goes is of the list, and what comes is not. All of them are of a table's datoms.
pub record MayChange (order : Order) (table gone come base : List Datom) : Type 0 where
  pub rising : IsRising order base
  pub gone_rises : IsRising order gone
  pub come_rises : IsRising order come
  pub within : IsWithin table base
  pub come_within : IsWithin table come
  pub there : IsWithin base gone
  pub fresh : (d : Datom) → Contains come d → Contains base d → ⊥

-- the datoms from the first on that is not below the probe
abbrev pub from_probe : Probe → List Datom → List Datom
from_probe p ds = drop (place_of p ds) ds

-- the datoms of other keys
abbrev pub without : Order → Datom → List Datom → List Datom
without order d ds = filter (λ x. not (is_eq (key_cmp order d x))) ds
