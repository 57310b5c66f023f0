-- What additions give to a tempid: the holders of identity values.
-- Datomic, Transaction Data (temporary ids) and Schema (unique identities).
use Rattle.std.specs.Prelude.{ℕ, Bool, true, false, not, ◌||◌, List, [], ◌∷◌, nat_eq}
use Rattle.std.specs.Prelude.{slice_index_or, slice_set, Option, Some, None}
use Rattle.std.specs.Option.{option_map_or}
use Rattle.tx_resolve.specs.declared.whom.EntityRef.TheVariants.{New}
use Rattle.tx_resolve.specs.declared.drafts.Draft.{Draft}
use Rattle.tx_resolve.specs.declared.drafts.Draft.TheVariants as draft
use Rattle.tx_resolve.specs.declared.holders.Slot.{Slot}

-- ---- what is known of one tempid

-- no form adds to it
abbrev pub no_slot : Slot
no_slot = record { first = None; differ = false; added_to = false }

-- one of its holders is another
abbrev pub has_another : Slot → ℕ → Bool
has_another slot e =
    option_map_or (λ first. not (nat_eq first e) || slot.differ) slot.first false

-- with one more addition before the others
abbrev pub with_addition : Option ℕ → Slot → Slot
with_addition None slot = record { first = slot.first; differ = slot.differ; added_to = true }
with_addition (Some e) slot =
    record { first = Some e; differ = has_another slot e; added_to = true }

-- ---- what is known of all, by their places

abbrev pub slot_at : List Slot → ℕ → Slot
slot_at slots place = slice_index_or slots place no_slot

-- the place of the tempid that it adds to, with the holder that it gives it, if there is one
abbrev pub addition_of : Draft → Option (ℕ × Option ℕ)
addition_of (draft.Adds (New place) attribute p holder) = Some (place, holder)
addition_of asked = None

abbrev pub with_draft : Draft → List Slot → List Slot
with_draft asked slots =
    option_map_or
    (λ (addition : ℕ × Option ℕ). slice_set slots addition.0
    (with_addition addition.1 (slot_at slots addition.0)))
    (addition_of asked) slots

-- what the drafts give, before what is known already
abbrev pub slots_of : List Slot → List Draft → List Slot
slots_of slots [] = slots
slots_of slots (asked ∷ later) = with_draft asked (slots_of slots later)
