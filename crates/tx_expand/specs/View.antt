-- What the definitions see in asks that are not judged yet.
-- A map without `:db/id` goes by its number among these maps.
-- This project's own choice.
use Rattle.std.specs.Prelude.{◌≡◌, ℕ, List, [], ◌∷◌, ◌++◌, map, Option, Some, None}
use Rattle.edn_form.specs.View.{form_of}
use Rattle.tx_model.specs.Asks as model
use Rattle.tx_asks.specs.declared.asks.LookupRef.{LookupRef}
use Rattle.tx_asks.specs.declared.asks.Name.{Name}
use Rattle.tx_asks.specs.declared.asks.Name.TheVariants.{Number, Ident, Lookup, Tempid, Nameless}
use Rattle.tx_asks.specs.Asks.{lookup_at}
use Rattle.tx_expand.specs.declared.raw.Attr.{Attr}
use Rattle.tx_expand.specs.declared.raw.Attr.TheVariants.{Known, Unknown}
use Rattle.tx_expand.specs.declared.raw.Link.{Link}
use Rattle.tx_expand.specs.declared.raw.Link.TheVariants.{Forward, Backward}
use Rattle.tx_expand.specs.declared.raw.RawPart.{RawPart}
use Rattle.tx_expand.specs.declared.raw.RawPart.TheVariants.{Plain, Entity}
use Rattle.tx_expand.specs.declared.raw.RawAsk.{RawAsk}
use Rattle.tx_expand.specs.declared.raw.RawAsk.TheVariants.{Adds, Retracts, RetractsAll, Compares}
use Rattle.tx_expand.specs.declared.raw.RawAsk.TheVariants.{RetractsEntity, Meets, Mentions}
use Rattle.tx_expand.specs.declared.raw.RawAsk.TheVariants.{LacksId}
use Rattle.tx_expand.specs.declared.raw.Out.{Out}

-- the lookup refs begin with these
pub record BeginWith (first all : List LookupRef) : Type 0 where
  pub rest : List LookupRef
  pub are : all ≡ first ++ rest

-- ---- where these are the lookup refs of the transaction

abbrev pub model_name : List LookupRef → Name → model.Name
model_name all (Number z) = model.number z
model_name all (Ident k) = model.ident k.now
model_name all (Lookup n) = lookup_at all n
model_name all (Tempid s) = model.tempid s.now
model_name all (Nameless n) = model.nameless (n ∷ [])

-- the keyword in the attribute's place
abbrev pub word_of : Attr → List ℕ
word_of (Known attribute) = attribute.now.ident
word_of (Unknown k) = k

abbrev pub model_link : Link → model.Key
model_link (Forward attr) = model.forward (word_of attr)
model_link (Backward attr) = model.backward (word_of attr)

-- none is `:db/id`
abbrev pub model_key : Option Link → model.Key
model_key None = model.own
model_key (Some link) = model_link link

abbrev pub model_part : List LookupRef → RawPart → model.Operand
model_part all (Plain f) = model.plain (form_of f.now)
model_part all (Entity name) = model.entity (model_name all name)

abbrev pub model_ask : List LookupRef → RawAsk → model.Ask
model_ask all (Adds name attr part) =
    model.adds (model_name all name) (word_of attr) (model_part all part)
model_ask all (Retracts name attr part) =
    model.retracts (model_name all name) (word_of attr) (model_part all part)
model_ask all (RetractsAll name attr) = model.retracts_all (model_name all name) (word_of attr)
model_ask all (Compares name attr old new) =
    model.compares (model_name all name) (word_of attr) (model_part all old) (model_part all new)
model_ask all (RetractsEntity name) = model.retracts_entity (model_name all name)
model_ask all (Meets name) = model.meets (model_name all name)
model_ask all (Mentions attr) = model.mentions (word_of attr)
model_ask all LacksId = model.lacks_id

abbrev pub model_asks : List LookupRef → Out → List model.Ask
model_asks all out = map (model_ask all) out.raws.items
