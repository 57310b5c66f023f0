-- The rules on tempids, as tests of drafts, where this is known of the tempids.
-- Datomic, Transaction Data (temporary ids) and Schema (unique identities).
use Rattle.std.specs.Prelude.{ℕ, Bool, false, not, List, map, Option, Vec}
use Rattle.std.specs.Option.{option_map_or}
use Rattle.std.specs.List.{list_any}
use Rattle.std.specs.declared.alloc.Global.{Global}
use Rattle.tx_model.specs.Step.{first_yes}
use Rattle.tx_resolve.specs.declared.drafts.Draft.{Draft}
use Rattle.tx_resolve.specs.declared.holders.Slot.{Slot}
use Rattle.tx_resolve.specs.Meeting.{places_of}
use Rattle.tx_resolve.specs.Holders.{slot_at, has_another, addition_of}

-- it gives a holder to a tempid that has another one too
abbrev pub gives_one_of_two : List Slot → Draft → Bool
gives_one_of_two slots asked =
    option_map_or
    (λ (addition : ℕ × Option ℕ). option_map_or (has_another (slot_at slots addition.0))
    addition.1 false)
    (addition_of asked) false

-- no draft adds to the tempid
abbrev pub is_added_to_by_none : List Slot → ℕ → Bool
is_added_to_by_none slots place = not (slot_at slots place).added_to

abbrev pub uses_one_of_none : List Slot → Draft → Bool
uses_one_of_none slots asked = list_any (is_added_to_by_none slots) (places_of asked)

-- the first form with a draft that the test finds
abbrev pub first_form : (Draft → Bool) → List (Vec Draft Global) → Option ℕ
first_form test forms = first_yes 0 (map (λ form. list_any test form.items) forms)
