-- What drafts come to, where these tempids are met, the forms have these drafts
-- and so many user entities are issued.
-- Datomic, Transaction Data (temporary ids).
use Rattle.std.specs.Prelude.{ℕ, List, [], ◌∷◌, map, filter_map, Option, Vec}
use Rattle.std.specs.declared.alloc.Global.{Global}
use Rattle.tx_refusals.specs.declared.reasons.Reason.{Reason}
use Rattle.tx_refusals.specs.declared.reasons.Reason.TheVariants.{TempidConflict, TempidNotAnEntity}
use Rattle.tx_asks.specs.Acts.{Act}
use Rattle.tx_asks.specs.declared.acts.Act as program
use Rattle.tx_asks.specs.declared.acts.Resolved.{Resolved}
use Rattle.tx_asks.specs.Acts as acts
use Rattle.tx_resolve.specs.declared.drafts.Draft.{Draft}
use Rattle.tx_resolve.specs.declared.holders.Slot.{Slot}
use Rattle.tx_resolve.specs.declared.meeting.Met.{Met}
use Rattle.tx_resolve.specs.Meeting.{drafts_in}
use Rattle.tx_resolve.specs.Holders.{slots_of}
use Rattle.tx_resolve.specs.Numbers.{numbered, act_of, with_entity}
use Rattle.tx_resolve.specs.Breaks.{gives_one_of_two, uses_one_of_none, first_form}

-- what is known of the tempids
abbrev pub slots_in : Met → List (Vec Draft Global) → List Slot
slots_in met forms = slots_of met.slots.items (drafts_in forms)

-- their entities
abbrev pub entities_in : Met → List (Vec Draft Global) → ℕ → List ℕ
entities_in met forms users = numbered (slots_in met forms) users

-- the acts of each form
abbrev pub drafted_acts : Met → List (Vec Draft Global) → ℕ → List (List Act)
drafted_acts met forms users =
    map (λ form. filter_map (act_of (entities_in met forms users)) form.items) forms

-- the tempids with a name
abbrev pub told_names : Met → List (Vec Draft Global) → ℕ → List (List ℕ × ℕ)
told_names met forms users =
    filter_map (with_entity (entities_in met forms users)) met.named.entries

-- the rules on tempids
abbrev pub rules_of : List Slot → List (Vec Draft Global) → List (Reason × Option ℕ)
rules_of slots forms =
    (TempidConflict, first_form (gives_one_of_two slots) forms)
    ∷ (TempidNotAnEntity, first_form (uses_one_of_none slots) forms)
    ∷ []

abbrev pub tempid_rules : Met → List (Vec Draft Global) → List (Reason × Option ℕ)
tempid_rules met forms = rules_of (slots_in met forms) forms

-- the lists of a vector of vectors
abbrev pub lists_of : List (Vec program.Act Global) → List (List program.Act)
lists_of forms = map (λ form. form.items) forms

-- the acts of the answer
abbrev pub acts_of : Resolved → List (List Act)
acts_of answer = map (λ form. map acts.model_act form.items) answer.forms.items
