-- Attributes that were looked up in the facts. This project's own choice.
use Rattle.std.specs.Prelude.{◌≡◌, ℕ, List, Option, Some, None, ⊤}
use Rattle.std.specs.List.{All}
use Rattle.fb_values.specs.declared.facts.Datom.{Datom}
use Rattle.fb_values.specs.declared.facts.Entry.{Entry}
use Rattle.fb_model.specs.Lawful.{IsLawful}
use Rattle.fb_model.specs.Schema.{Attribute, attribute_named}
use Rattle.fb_schema.specs.Described.{SchemaStands}
use Rattle.fb_schema.specs.Parts.{model_attribute}
use Rattle.tx_expand.specs.declared.raw.Attr.{Attr}
use Rattle.tx_expand.specs.declared.raw.Attr.TheVariants.{Known, Unknown}
use Rattle.tx_expand.specs.declared.raw.Link.{Link}
use Rattle.tx_expand.specs.declared.raw.Link.TheVariants.{Forward, Backward}
use Rattle.tx_expand.specs.declared.raw.RawAsk.{RawAsk}
use Rattle.tx_expand.specs.declared.raw.RawAsk.TheVariants.{Adds, Retracts, RetractsAll, Compares}
use Rattle.tx_expand.specs.declared.raw.RawAsk.TheVariants.{RetractsEntity, Meets, Mentions}
use Rattle.tx_expand.specs.declared.raw.RawAsk.TheVariants.{LacksId}
use Rattle.tx_expand.specs.declared.raw.Out.{Out}

-- the schema is that of some lawful history
abbrev pub IsLawfulSchema : List Datom → Type 0
IsLawfulSchema schema = (h : List Entry) × (IsLawful h × SchemaStands schema h)

-- an attribute that a keyword names has that keyword as its name
abbrev pub HaveOwnNames : List Datom → Type 0
HaveOwnNames facts =
    (k : List ℕ) (attribute : Attribute) → attribute_named facts k ≡ Some attribute
    → attribute.name ≡ k

-- an attribute is known where it is installed
abbrev pub IsLookedUp : List Datom → Attr → Type 0
IsLookedUp facts (Known attribute) =
    attribute_named facts attribute.now.ident ≡ Some (model_attribute attribute.now)
IsLookedUp facts (Unknown k) = attribute_named facts k ≡ None

abbrev pub IsLinkLookedUp : List Datom → Link → Type 0
IsLinkLookedUp facts (Forward attr) = IsLookedUp facts attr
IsLinkLookedUp facts (Backward attr) = IsLookedUp facts attr

abbrev pub IsKeyLookedUp : List Datom → Option Link → Type 0
IsKeyLookedUp facts None = ⊤
IsKeyLookedUp facts (Some link) = IsLinkLookedUp facts link

abbrev pub IsAskLookedUp : List Datom → RawAsk → Type 0
IsAskLookedUp facts (Adds name attr part) = IsLookedUp facts attr
IsAskLookedUp facts (Retracts name attr part) = IsLookedUp facts attr
IsAskLookedUp facts (RetractsAll name attr) = IsLookedUp facts attr
IsAskLookedUp facts (Compares name attr old new) = IsLookedUp facts attr
IsAskLookedUp facts (RetractsEntity name) = ⊤
IsAskLookedUp facts (Meets name) = ⊤
IsAskLookedUp facts (Mentions attr) = IsLookedUp facts attr
IsAskLookedUp facts LacksId = ⊤

abbrev pub AreLookedUp : List Datom → Out → Type 0
AreLookedUp facts out = All (IsAskLookedUp facts) out.raws.items
