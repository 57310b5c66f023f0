-- Components of an index and ranges of values as a command gives them, read from left to right.
-- Datomic, Indexes (datoms, seek-datoms, index-range). Places are counted from the command's word,
-- which is at 0.
use Rattle.std.specs.Prelude.{◌≡◌, ℕ, ◌+◌, pos, Bool, List, [], ◌∷◌, length, ◌==◌, nat_le}
use Rattle.std.specs.Prelude.{if◌then◌else◌, Option, Some, None, option_and_then, Result, Ok, Err}
use Rattle.std.specs.Prelude.{MatchBool}
use Rattle.std.specs.List.{zip}
use Rattle.std.specs.Option.{option_map_or}
use Rattle.edn_model.specs.Form as edn
use Rattle.edn_model.specs.Form.{Form}
use Rattle.fb_values.specs.declared.facts.Datom.{Datom}
use Rattle.fb_values.specs.declared.facts.Entry.{Entry}
use Rattle.fb_values.specs.declared.facts.Value.{Value}
use Rattle.fb_values.specs.declared.facts.Value.TheVariants.{Ref}
use Rattle.fb_values.specs.declared.indexes.Order.{Order}
use Rattle.fb_values.specs.declared.indexes.Order.TheVariants.{Eavt, Aevt, Avet, Vaet}
use Rattle.fb_values.specs.declared.indexes.Probe.{Probe}
use Rattle.fb_numbers.specs.Numbers.{type_ref}
use Rattle.fb_model.specs.Facts.{facts}
use Rattle.fb_model.specs.Schema.{Attribute, attribute_of, attribute_named, is_held}
use Rattle.tx_model.specs.Values.{value_in}
use Rattle.view_model.specs.Window.{Window}
use Rattle.view_model.specs.View.{facts_seen}
use Rattle.view_model.specs.Names.{Id, entity_named}
use Rattle.view_model.specs.Scan.{Range, between}
use Rattle.read_model.specs.Points.{t_of}
use Rattle.read_model.specs.Names.{id_in}
use Rattle.read_model.specs.Given.{Given, is, by_name, wrong, refusal, ReadsGiven, reads}
use Rattle.read_refusals.specs.declared.reasons.Reason.TheVariants.{NotACommand, BadComponent}
use Rattle.read_refusals.specs.declared.reasons.Reason.TheVariants.{NotInIndex}
use Rattle.read_refusals.specs.declared.reasons.Refusal.{Refusal}

-- ---- one component

pub data Component : Type 0 where
  an_entity : Component
  an_attribute : Component
  a_value : Component
  a_t : Component

abbrev pub parts_of : Order → List Component
parts_of Eavt = an_entity ∷ an_attribute ∷ a_value ∷ a_t ∷ []
parts_of Aevt = an_attribute ∷ an_entity ∷ a_value ∷ a_t ∷ []
parts_of Avet = an_attribute ∷ a_value ∷ an_entity ∷ a_t ∷ []
parts_of Vaet = a_value ∷ an_attribute ∷ an_entity ∷ a_t ∷ []

-- an entity by its name
abbrev pub entity_given : {X : Type 0} → (ℕ → X) → Option Id → Given X
entity_given make None = wrong BadComponent
entity_given make (Some id) = by_name id make

-- an attribute, which the index has to hold
abbrev pub attribute_given : {X : Type 0} → (Attribute → X) → Order → Option Attribute → Given X
attribute_given make order None = wrong BadComponent
attribute_given make order (Some attribute) =
    if is_held order attribute then is (make attribute) else wrong NotInIndex

-- what was read, if anything was
abbrev pub plain_given : {A X : Type 0} → (A → X) → Option A → Given X
plain_given make None = wrong BadComponent
plain_given make (Some x) = is (make x)

-- a value of the type, of which an entity is named as an entity is
abbrev pub value_given : {X : Type 0} → List Datom → (Value → X) → ℕ → Form → Given X
value_given facts make kind f =
    if kind == type_ref then entity_given (λ e. make (Ref e)) (id_in facts f)
    else plain_given make (value_in kind f)

-- a t or the entity of a transaction
abbrev pub t_in : Form → Option ℕ
t_in (edn.integer (pos n)) = t_of n
t_in f = None

-- the attribute that a keyword names, by the facts of the whole history
abbrev pub attribute_in : List Datom → Form → Option Attribute
attribute_in facts (edn.keyword k) = attribute_named facts k
attribute_in facts f = None

-- the type of the value that is next: that of the attribute before it, and in VAET, where none is,
-- an entity's
abbrev pub kind_behind : List Datom → Probe → ℕ
kind_behind facts probe =
    option_map_or (λ attribute. attribute.kind) (option_and_then (attribute_of facts) probe.a)
    type_ref

-- the probe with one component more
abbrev pub with_next : List Datom → Probe → Component → Form → Given Probe
with_next facts probe an_entity f = entity_given (λ e. record probe { e = Some e }) (id_in facts f)
with_next facts probe an_attribute f =
    attribute_given (λ a. record probe { a = Some a.id }) probe.order (attribute_in facts f)
with_next facts probe a_value f =
    value_given facts (λ v. record probe { v = Some v }) (kind_behind facts probe) f
with_next facts probe a_t f = plain_given (λ t. record probe { t = Some t }) (t_in f)

-- ---- all components

abbrev pub no_component : Order → Probe
no_component order = record { order = order; e = None; a = None; v = None; t = None }

-- each form at its place, the first of them at `at`
abbrev pub AreRead : List Entry → Window → (Datom → Type 0) → Probe → ℕ → List (Component × Form)
    → Result Probe Refusal → Type 0
AreRead h w Selects probe at [] answer = answer ≡ Ok probe
AreRead h w Selects probe at (next ∷ rest) answer =
    ReadsGiven h w Selects at (with_next (facts h) probe next.0 next.1)
    (λ more. AreRead h w Selects more (at + 1) rest) answer

abbrev pub no_command : Refusal
no_command = refusal NotACommand 0

-- `[:datoms index c ..]` and `[:seek index c ..]`: the probe that the components give, or the first
-- place that fails. An index has four components, and a form with more is not a command
abbrev pub AreComponents : List Entry → Window → (Datom → Type 0) → Order → List Form
    → Result Probe Refusal → Type 0
AreComponents h w Selects order fs answer =
    MatchBool (nat_le (length fs) 4)
    (AreRead h w Selects (no_component order) 2 (zip (parts_of order) fs) answer)
    (answer ≡ Err no_command)

-- ---- a range of values

-- nil leaves an end open
abbrev pub end_given : List Datom → ℕ → Form → Given (Option Value)
end_given facts kind edn.nil = is None
end_given facts kind f = value_given facts Some kind f

-- `[:index-range a start end]`: the range of AVET, or the first place that fails
abbrev pub IsIndexRange : List Entry → Window → (Datom → Type 0) → Form → Form → Form
    → Result Range Refusal → Type 0
IsIndexRange h w Selects a start end answer =
    ReadsGiven h w Selects 1
    (attribute_given (λ attribute. attribute) Avet (attribute_in (facts h) a))
    (λ attribute. ReadsGiven h w Selects 2 (end_given (facts h) attribute.kind start)
    (λ from. ReadsGiven h w Selects 3 (end_given (facts h) attribute.kind end)
    (λ to done. done ≡ Ok (between attribute.id from to)))) answer

-- ---- the same, computed, where filters are tests

abbrev pub finds : List Entry → Window → List (Datom → Bool) → Id → Option ℕ
finds h w filters id = entity_named (facts_seen h w filters) id

abbrev pub read_by : (Id → Option ℕ) → List Datom → Probe → ℕ → List (Component × Form)
    → Result Probe Refusal
read_by find facts probe at [] = Ok probe
read_by find facts probe at (next ∷ rest) =
    reads find at (with_next facts probe next.0 next.1)
    (λ more. read_by find facts more (at + 1) rest)

abbrev pub components : List Entry → Window → List (Datom → Bool) → Order → List Form
    → Result Probe Refusal
components h w filters order fs =
    if nat_le (length fs) 4
    then read_by (finds h w filters) (facts h) (no_component order) 2 (zip (parts_of order) fs)
    else Err no_command

abbrev pub index_range : List Entry → Window → List (Datom → Bool) → Form → Form → Form
    → Result Range Refusal
index_range h w filters a start end =
    reads (finds h w filters) 1
    (attribute_given (λ attribute. attribute) Avet (attribute_in (facts h) a))
    (λ attribute. reads (finds h w filters) 2 (end_given (facts h) attribute.kind start)
    (λ from. reads (finds h w filters) 3 (end_given (facts h) attribute.kind end)
    (λ to. Ok (between attribute.id from to))))
