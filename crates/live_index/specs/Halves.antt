-- The two lists of an order whose datoms together are the live list: what holds, and what does not.
-- Restates Indexes of Datomic's documentation (the merging of recent datoms);
-- that there are two lists is this project's own choice.
use Rattle.std.specs.Prelude.{◌≡◌, ◌<◌, Bool, true, false, not, List, [], ◌∷◌, ◌++◌, Contains}
use Rattle.std.specs.Prelude.{if◌then◌else◌}
use Rattle.std.specs.List.{list_any}
use Rattle.fb_values.specs.declared.facts.Datom.{Datom}
use Rattle.fb_values.specs.declared.indexes.Order.{Order}
use Rattle.fb_values.specs.declared.indexes.Order.TheVariants.{Eavt, Aevt, Avet, Vaet}
use Rattle.fb_values.specs.Lists.{Lists}
use Rattle.fb_values.specs.Rising.{IsRising}
use Rattle.fb_model.specs.Rising.{in_order}
use Rattle.fb_model.specs.Facts.{standing, is_last_assertion}
use Rattle.live_index.specs.Growth.{HasNoTwins}
use Rattle.live_index.specs.Ending.{is_mate}

-- both lists rise, no datom is in both, and no two with one key differ
pub record IsPair (order : Order) (older live : List Datom) : Type 0 where
  pub older_rises : IsRising order older
  pub live_rises : IsRising order live
  pub apart : (d : Datom) → Contains older d → Contains live d → ⊥
  pub single : HasNoTwins (older ++ live)

-- the datoms of both in the order
abbrev pub merged : Order → List Datom → List Datom → List Datom
merged order older live = in_order order (older ++ live)

-- the datoms that do not hold: retractions, and those that others of their triple follow
abbrev pub withdrawn : List Datom → List Datom
withdrawn [] = []
withdrawn (d ∷ ds) = if is_last_assertion d ds then withdrawn ds else d ∷ withdrawn ds

-- the first list is what holds of both
pub record AreHalves (order : Order) (holding past : List Datom) : Type 0 where
  pub pair : IsPair order holding past
  pub stands : holding ≡ standing (merged order holding past)

-- both together, in each order
abbrev pub both_lists : Lists → Lists → Lists
both_lists holding past = record {
  eavt = merged Eavt holding.eavt past.eavt;
  aevt = merged Aevt holding.aevt past.aevt;
  avet = merged Avet holding.avet past.avet;
  vaet = merged Vaet holding.vaet past.vaet;
}

-- the datoms may come next:
-- each is later than the older ones of its triple and the only new one, and adds what does not hold
pub record MayFollow (old datoms : List Datom) : Type 0 where
  pub single : HasNoTwins (old ++ datoms)
  pub later : (x d : Datom) → Contains old x → Contains datoms d → is_mate d x ≡ true → x.t < d.t
  pub one : (x d : Datom) → Contains datoms x → Contains datoms d → is_mate d x ≡ true → x ≡ d
  pub fresh : (x d : Datom) → Contains (standing old) x → Contains datoms d
      → is_mate d x ≡ true → d.added ≡ false

-- no datom of the triple is among the later ones
abbrev pub outlives : List Datom → Datom → Bool
outlives later d = not (list_any (is_mate d) later)

-- the second list's datoms are later than the first one's of their triples
abbrev pub IsLater : List Datom → List Datom → Type 0
IsLater older live =
    (x y : Datom) → Contains older x → Contains live y → is_mate x y ≡ true → x.t < y.t
