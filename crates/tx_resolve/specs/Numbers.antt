-- The entities of tempids.
-- Datomic, Transaction Data (temporary ids).
-- That user numbers have no gap is this project's own choice.
use Rattle.std.specs.Prelude.{ℕ, ◌+◌, List, [], ◌∷◌, slice_get, Option, Some, None}
use Rattle.std.specs.Prelude.{option_and_then, option_map}
use Rattle.fb_values.specs.declared.facts.Value.{Value}
use Rattle.fb_values.specs.declared.facts.Value.TheVariants.{Ref}
use Rattle.fb_numbers.specs.Numbers.{user_entity}
use Rattle.fb_schema.specs.Parts.{model_attribute}
use Rattle.tx_asks.specs.Acts as acts
use Rattle.tx_resolve.specs.declared.whom.EntityRef.{EntityRef}
use Rattle.tx_resolve.specs.declared.whom.EntityRef.TheVariants.{Known, New}
use Rattle.tx_resolve.specs.declared.drafts.Operand.{Operand}
use Rattle.tx_resolve.specs.declared.drafts.Operand.TheVariants.{Plain, Entity}
use Rattle.tx_resolve.specs.declared.drafts.Draft.{Draft}
use Rattle.tx_resolve.specs.declared.drafts.Draft.TheVariants as draft
use Rattle.tx_resolve.specs.declared.holders.Slot.{Slot}

-- the entity of a tempid: the first holder, or else the next user entity
abbrev pub entity_next : Option ℕ → ℕ → ℕ
entity_next None n = user_entity (n + 1)
entity_next (Some e) n = e

-- the greatest user number then
abbrev pub number_next : Option ℕ → ℕ → ℕ
number_next None n = n + 1
number_next (Some e) n = n

-- the entities of all, by their places
abbrev pub numbered : List Slot → ℕ → List ℕ
numbered [] n = []
numbered (slot ∷ slots) n = entity_next slot.first n ∷ numbered slots (number_next slot.first n)

-- a name with the entity of its place
abbrev pub with_entity : List ℕ → List ℕ × ℕ → Option (List ℕ × ℕ)
with_entity entities name = option_map (λ e. (name.0, e)) (slice_get entities name.1)

-- ---- the act of a draft, where the tempids have these entities by their places

abbrev pub entity_of : List ℕ → EntityRef → Option ℕ
entity_of entities (Known e) = Some e
entity_of entities (New place) = slice_get entities place

abbrev pub value_of : List ℕ → Operand → Option Value
value_of entities (Plain v) = Some v
value_of entities (Entity whom) = option_map Ref (entity_of entities whom)

abbrev pub old_value_of : List ℕ → Option Operand → Option Value
old_value_of entities None = None
old_value_of entities (Some p) = value_of entities p

abbrev pub act_of : List ℕ → Draft → Option acts.Act
act_of entities (draft.Adds on attribute p holder) =
    option_and_then
    (λ e. option_map (acts.adds e (model_attribute attribute.now)) (value_of entities p))
    (entity_of entities on)
act_of entities (draft.Retracts on attribute p) =
    option_and_then
    (λ e. option_map (acts.retracts e (model_attribute attribute.now)) (value_of entities p))
    (entity_of entities on)
act_of entities (draft.RetractsAll on attribute) =
    option_map (λ e. acts.retracts_all e (model_attribute attribute.now)) (entity_of entities on)
act_of entities (draft.Compares of) =
    option_and_then
    (λ e. option_map
    (acts.compares e (model_attribute of.attribute.now) (old_value_of entities of.old))
    (value_of entities of.new))
    (entity_of entities of.on)
act_of entities (draft.RetractsEntity on) =
    option_map acts.retracts_entity (entity_of entities on)
act_of entities (draft.Meets on) = None
