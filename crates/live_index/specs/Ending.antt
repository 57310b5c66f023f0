-- What a retraction ends: the fact of its triple, which holds no longer.
-- Restates Transaction Data
-- of Datomic's documentation (a retracted datom ends the fact of its triple).
use Rattle.std.specs.Prelude.{◌≡◌, ◌↔◌, ◌⊎◌, ◌<◌, ◌&&◌, Bool, true, false, not, List, Contains, IsTrue}
use Rattle.std.specs.List.{list_any}
use Rattle.fb_values.specs.declared.facts.Datom.{Datom}
use Rattle.fb_values.specs.declared.indexes.Order.{Order}
use Rattle.fb_model.specs.Facts.{is_of}
use Rattle.fb_covers.specs.Coverage.{Coverage}
use Rattle.live_index.specs.Growth.{is_held}

-- the datom is of the same triple as the first one
abbrev pub is_mate : Datom → Datom → Bool
is_mate d x = is_of d.e d.a d.v x

-- What holds has at most one datom of the triple, and that is earlier. The datom is not in the past, which has none of what holds.
pub record MayEnd (holding past : List Datom) (d : Datom) : Type 0 where
  pub earlier : (x : Datom) → Contains holding x → is_mate d x ≡ true → x.t < d.t
  pub one : (x y : Datom) → Contains holding x → Contains holding y → is_mate d x ≡ true
      → is_mate d y ≡ true → x ≡ y
  pub apart : (x : Datom) → Contains holding x → Contains past x → ⊥
  pub fresh : Contains past d → ⊥

-- the same of each of some datoms
abbrev pub MayEndAll : List Datom → List Datom → List Datom → Type 0
MayEndAll holding past ds = (d : Datom) → Contains ds d → MayEnd holding past d

-- what holds without the datom of the triple, and the past with it
pub record IsEnded (d : Datom) (holding past new gone : List Datom) : Type 0 where
  pub new_is : (x : Datom) → Contains new x ↔ (Contains holding x × (is_mate d x ≡ false))
  pub gone_is : (x : Datom)
      → Contains gone x ↔ (Contains past x ⊎ (Contains holding x × (is_mate d x ≡ true)))

-- the datom ends the other one in an index that holds the attribute
abbrev pub ends : Coverage → Order → Datom → Datom → Bool
ends coverage order d x = not d.added && (is_held coverage order d && is_mate d x)

-- one of the datoms does
abbrev pub are_ending : Coverage → Order → List Datom → Datom → Bool
are_ending coverage order ds x = list_any (λ d. ends coverage order d x) ds

-- the index takes the datom as a retraction
abbrev pub withdraws : Coverage → Order → Datom → Bool
withdraws coverage order d = not d.added && is_held coverage order d

-- What stood and is ended goes from the one list of an order to the other, and so does what ends it
pub record IsRetracted (order : Order) (coverage : Coverage) (holding past datoms : List Datom)
    (new gone : List Datom) : Type 0 where
  pub new_is : (x : Datom)
      → Contains new x ↔ (Contains holding x × (are_ending coverage order datoms x ≡ false))
  pub gone_is : (x : Datom)
      → Contains gone x
      ↔ ((Contains past x ⊎ (Contains holding x × (are_ending coverage order datoms x ≡ true)))
      ⊎ (Contains datoms x × IsTrue (withdraws coverage order x)))
