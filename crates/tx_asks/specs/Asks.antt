-- What the definitions see in the asks of the program,
-- and what expanding a transaction promises of them.
-- Datomic, Transaction Data.
use Rattle.std.specs.Prelude.{◌≡◌, ◌<◌, ℕ, negsuc, Bool, true, false, List, [], map, filter, length}
use Rattle.std.specs.Prelude.{slice_index_or, Option, Some, None, ⊤}
use Rattle.std.specs.List.{All}
use Rattle.edn_model.specs.Form as edn
use Rattle.edn_form.specs.View.{form_of}
use Rattle.fb_values.specs.declared.facts.Datom.{Datom}
use Rattle.fb_model.specs.Schema.{attribute_named}
use Rattle.fb_schema.specs.declared.attribute.Attribute.{Attribute}
use Rattle.fb_schema.specs.Parts.{model_attribute}
use Rattle.tx_model.specs.Asks as model
use Rattle.tx_model.specs.Values.{value_in}
use Rattle.tx_model.specs.Step.{first_yes}
use Rattle.tx_model.specs.NameRules.{is_lacking}
use Rattle.std.specs.List.{list_any}
use Rattle.tx_asks.specs.declared.asks.LookupRef.{LookupRef}
use Rattle.tx_asks.specs.declared.asks.Name.{Name}
use Rattle.tx_asks.specs.declared.asks.Name.TheVariants.{Number, Ident, Lookup, Tempid, Nameless}
use Rattle.tx_asks.specs.declared.asks.Operand.{Operand}
use Rattle.tx_asks.specs.declared.asks.Operand.TheVariants.{Plain, Entity}
use Rattle.tx_asks.specs.declared.asks.Ask.{Ask}
use Rattle.tx_asks.specs.declared.asks.Ask.TheVariants.{Adds, Retracts, RetractsAll, Compares}
use Rattle.tx_asks.specs.declared.asks.Ask.TheVariants.{RetractsEntity, Meets}
use Rattle.tx_asks.specs.declared.asks.Flat.{Flat}

-- ---- what the numbers in names mean

-- the lookup refs, and the places of the maps without `:db/id`
pub record Legend : Type 0 where
  pub lookups : List LookupRef
  pub places : List (List ℕ)

abbrev pub lookup_of : LookupRef → model.Name
lookup_of ref = model.lookup ref.attribute.now (form_of ref.value.now)

-- the lookup ref with the number: past the last one a number that no entity has
abbrev pub lookup_at : List LookupRef → ℕ → model.Name
lookup_at lookups n = slice_index_or (map lookup_of lookups) n (model.number (negsuc 0))

-- ---- asks

abbrev pub name_of : Legend → Name → model.Name
name_of legend (Number n) = model.number n
name_of legend (Ident k) = model.ident k.now
name_of legend (Lookup n) = lookup_at legend.lookups n
name_of legend (Tempid text) = model.tempid text.now
name_of legend (Nameless n) = model.nameless (slice_index_or legend.places n [])

abbrev pub part_of : Legend → Operand → model.Operand
part_of legend (Plain f v) = model.plain (form_of f.now)
part_of legend (Entity name) = model.entity (name_of legend name)

-- nil as the old value of a cas
abbrev pub old_part_of : Legend → Option Operand → model.Operand
old_part_of legend None = model.plain edn.nil
old_part_of legend (Some part) = part_of legend part

abbrev pub ask_of : Legend → Ask → model.Ask
ask_of legend (Adds on attribute part) =
    model.adds (name_of legend on) attribute.now.ident (part_of legend part)
ask_of legend (Retracts on attribute part) =
    model.retracts (name_of legend on) attribute.now.ident (part_of legend part)
ask_of legend (RetractsAll on attribute) =
    model.retracts_all (name_of legend on) attribute.now.ident
ask_of legend (Compares of) =
    model.compares (name_of legend of.on) of.attribute.now.ident (old_part_of legend of.old)
    (part_of legend of.new)
ask_of legend (RetractsEntity on) = model.retracts_entity (name_of legend on)
ask_of legend (Meets on) = model.meets (name_of legend on)

-- an ask that names an entity: the others mention an attribute, or say that a map lacks something
abbrev pub matters : model.Ask → Bool
matters (model.mentions attribute) = false
matters model.lacks_id = false
matters ask = true

-- ---- values that are read, and maps that are counted

abbrev pub IsTypedPart : Attribute → Operand → Type 0
IsTypedPart attribute (Plain f v) = value_in attribute.kind (form_of f.now) ≡ Some v
IsTypedPart attribute (Entity name) = ⊤

abbrev pub IsTypedOldPart : Attribute → Option Operand → Type 0
IsTypedOldPart attribute None = ⊤
IsTypedOldPart attribute (Some part) = IsTypedPart attribute part

-- the attribute is installed
abbrev pub IsInstalled : List Datom → Attribute → Type 0
IsInstalled facts attribute =
    attribute_named facts attribute.ident ≡ Some (model_attribute attribute)

-- attributes are installed, and plain values are those of their forms under the attribute's type
abbrev pub IsTyped : List Datom → Ask → Type 0
IsTyped facts (Adds on attribute part) =
    IsInstalled facts attribute.now × IsTypedPart attribute.now part
IsTyped facts (Retracts on attribute part) =
    IsInstalled facts attribute.now × IsTypedPart attribute.now part
IsTyped facts (RetractsAll on attribute) = IsInstalled facts attribute.now
IsTyped facts (Compares of) =
    IsInstalled facts of.attribute.now × IsTypedOldPart of.attribute.now of.old
    × IsTypedPart of.attribute.now of.new
IsTyped facts (RetractsEntity on) = ⊤
IsTyped facts (Meets on) = ⊤

-- a map without `:db/id` is one of the first n
abbrev pub IsCounted : ℕ → Name → Type 0
IsCounted n (Nameless k) = k < n
IsCounted n name = ⊤

abbrev pub IsCountedPart : ℕ → Operand → Type 0
IsCountedPart n (Plain f v) = ⊤
IsCountedPart n (Entity name) = IsCounted n name

abbrev pub IsCountedOldPart : ℕ → Option Operand → Type 0
IsCountedOldPart n None = ⊤
IsCountedOldPart n (Some part) = IsCountedPart n part

abbrev pub AreCounted : ℕ → Ask → Type 0
AreCounted n (Adds on attribute part) = IsCounted n on × IsCountedPart n part
AreCounted n (Retracts on attribute part) = IsCounted n on × IsCountedPart n part
AreCounted n (RetractsAll on attribute) = IsCounted n on
AreCounted n (Compares of) =
    IsCounted n of.on × IsCountedOldPart n of.old × IsCountedPart n of.new
AreCounted n (RetractsEntity on) = IsCounted n on
AreCounted n (Meets on) = IsCounted n on

-- no two of the places are alike
abbrev pub AreApart : List (List ℕ) → Type 0
AreApart places =
    (i j : ℕ) → i < length places → j < length places
    → slice_index_or places i [] ≡ slice_index_or places j [] → i ≡ j

-- ---- what expanding promises

-- its lookup refs, where the maps without `:db/id` are at these places
abbrev pub legend_of : Flat → List (List ℕ) → Legend
legend_of flat places = record { lookups = flat.lookups.items; places = places }

-- these are the asks of the forms, but for those that do not matter any more:
-- by these facts the attributes are installed and the values of their types
pub record AreAsks (flat : Flat) (facts : List Datom) (asks : List (List model.Ask)) : Type 0 where
  -- where the maps without `:db/id` are
  pub places : List (List ℕ)
  pub apart : AreApart places
  pub counted : length places ≡ flat.nameless
  pub same : map (λ form. map (ask_of (legend_of flat places)) form.items) flat.forms.items
      ≡ map (filter matters) asks
  pub read : All (λ form. All (IsTyped facts) form.items) flat.forms.items
  pub names_counted : All (λ form. All (AreCounted flat.nameless) form.items) flat.forms.items
  pub lacking : flat.lacking ≡ first_yes 0 (map (list_any is_lacking) asks)
