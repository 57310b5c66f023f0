-- The tempids in the order in which asks first meet them, and the places of drafts among them.
-- Datomic, Transaction Data (temporary ids).
use Rattle.std.specs.Prelude.{◌≡◌, ℕ, ◌+◌, bytes_eq, List, [], ◌∷◌, ◌++◌, flat_map, length}
use Rattle.std.specs.Prelude.{replicate, if◌then◌else◌, slice_index_or, Option, Some, None, Vec}
use Rattle.std.specs.List.{list_any}
use Rattle.std.specs.BTreeMap.{get}
use Rattle.std.specs.declared.alloc.Global.{Global}
use Rattle.fb_values.specs.Orders.{text_cmp}
use Rattle.tx_model.specs.Asks.{own_tempid}
use Rattle.tx_model.specs.Tempids.{by_text}
use Rattle.tx_asks.specs.declared.asks.Name.{Name}
use Rattle.tx_asks.specs.declared.asks.Name.TheVariants as name
use Rattle.tx_asks.specs.declared.asks.Operand as asks
use Rattle.tx_asks.specs.declared.asks.Operand.TheVariants as part
use Rattle.tx_asks.specs.declared.asks.Ask.{Ask}
use Rattle.tx_asks.specs.declared.asks.Ask.TheVariants as ask
use Rattle.tx_resolve.specs.declared.whom.EntityRef.{EntityRef}
use Rattle.tx_resolve.specs.declared.whom.EntityRef.TheVariants.{Known, New}
use Rattle.tx_resolve.specs.declared.drafts.Operand.{Operand}
use Rattle.tx_resolve.specs.declared.drafts.Operand.TheVariants.{Plain, Entity}
use Rattle.tx_resolve.specs.declared.drafts.Draft.{Draft}
use Rattle.tx_resolve.specs.declared.drafts.Draft.TheVariants as draft
use Rattle.tx_resolve.specs.declared.meeting.Met.{Met}
use Rattle.tx_resolve.specs.Tempids.{Tempid, named, nameless, is_same, place_in}
use Rattle.tx_resolve.specs.Holders.{no_slot}

-- ---- the tempids that asks name; the transaction's own entity is none

abbrev pub tempid_of : Name → List Tempid
tempid_of (name.Number n) = []
tempid_of (name.Ident k) = []
tempid_of (name.Lookup n) = []
tempid_of (name.Tempid text) =
    if bytes_eq text.now own_tempid then [] else named text.now ∷ []
tempid_of (name.Nameless n) = nameless n ∷ []

abbrev pub tempids_of_part : asks.Operand → List Tempid
tempids_of_part (part.Plain f v) = []
tempids_of_part (part.Entity x) = tempid_of x

abbrev pub tempids_of_old_part : Option asks.Operand → List Tempid
tempids_of_old_part None = []
tempids_of_old_part (Some p) = tempids_of_part p

abbrev pub tempids_of : Ask → List Tempid
tempids_of (ask.Adds on attribute p) = tempid_of on ++ tempids_of_part p
tempids_of (ask.Retracts on attribute p) = tempid_of on ++ tempids_of_part p
tempids_of (ask.RetractsAll on attribute) = tempid_of on
tempids_of (ask.Compares of) =
    tempid_of of.on ++ (tempids_of_old_part of.old ++ tempids_of_part of.new)
tempids_of (ask.RetractsEntity on) = tempid_of on
tempids_of (ask.Meets on) = tempid_of on

-- the asks of all forms, one after another
abbrev pub asks_in : List (Vec Ask Global) → List Ask
asks_in forms = flat_map (λ form. form.items) forms

-- ---- the first meetings

-- those that were met, and then those that are met now and were not yet
abbrev pub met_with : List Tempid → List Tempid → List Tempid
met_with met [] = met
met_with met (tempid ∷ tempids) =
    met_with (if list_any (is_same tempid) met then met else met ++ tempid ∷ []) tempids

-- those with a name, with their places from this one on
abbrev pub named_places : ℕ → List Tempid → List (List ℕ × ℕ)
named_places place [] = []
named_places place (named text ∷ rest) = (text, place) ∷ named_places (place + 1) rest
named_places place (nameless n ∷ rest) = named_places (place + 1) rest

-- the place at which a tempid is kept
abbrev pub place_of : Met → Tempid → Option ℕ
place_of met (named text) = get text_cmp met.named text
place_of met (nameless n) = slice_index_or met.nameless.items n None

-- these are the tempids that were met, each at its place, and nothing else is known of them
pub record AreMet (met : Met) (tempids : List Tempid) : Type 0 where
  pub places_are : (t : Tempid) → place_of met t ≡ place_in tempids t
  pub names_are : met.named.entries ≡ by_text (named_places 0 tempids)
  pub fresh : met.slots.items ≡ replicate (length tempids) no_slot

-- these tempids are met between the two
pub record Meets (old new : Met) (tempids : List Tempid) : Type 0 where
  pub keeps : (met : List Tempid) → AreMet old met → AreMet new (met_with met tempids)

-- ---- the places that drafts name

abbrev pub place_in_ref : EntityRef → List ℕ
place_in_ref (Known e) = []
place_in_ref (New place) = place ∷ []

abbrev pub place_in_part : Operand → List ℕ
place_in_part (Plain v) = []
place_in_part (Entity whom) = place_in_ref whom

abbrev pub place_in_old_part : Option Operand → List ℕ
place_in_old_part None = []
place_in_old_part (Some p) = place_in_part p

abbrev pub places_of : Draft → List ℕ
places_of (draft.Adds on attribute p holder) = place_in_ref on ++ place_in_part p
places_of (draft.Retracts on attribute p) = place_in_ref on ++ place_in_part p
places_of (draft.RetractsAll on attribute) = place_in_ref on
places_of (draft.Compares of) =
    place_in_ref of.on ++ (place_in_old_part of.old ++ place_in_part of.new)
places_of (draft.RetractsEntity on) = place_in_ref on
places_of (draft.Meets on) = place_in_ref on

-- the drafts of all forms, one after another
abbrev pub drafts_in : List (Vec Draft Global) → List Draft
drafts_in forms = flat_map (λ form. form.items) forms
