-- What an ask becomes when its names are looked up: none where one of them finds no entity.
-- Datomic, Transaction Data (entity identifiers), and Schema (unique identities).
use Rattle.std.specs.Prelude.{◌≡◌, ℕ, Bool, List, map, ◌==◌, if◌then◌else◌, Option, Some, None}
use Rattle.std.specs.Prelude.{is_none, option_map, option_and_then, Vec}
use Rattle.std.specs.List.{list_any}
use Rattle.std.specs.Borrow.{Bor}
use Rattle.std.specs.declared.alloc.Global.{Global}
use Rattle.fb_numbers.specs.Numbers.{unique_identity}
use Rattle.fb_model.specs.Facts.{holder}
use Rattle.fb_schema.specs.declared.attribute.Attribute.{Attribute}
use Rattle.tx_model.specs.Tempids.{Db}
use Rattle.tx_model.specs.Step.{first_yes}
use Rattle.tx_asks.specs.declared.asks.Operand as asks
use Rattle.tx_asks.specs.declared.asks.Operand.TheVariants as part
use Rattle.tx_asks.specs.declared.asks.Ask.{Ask}
use Rattle.tx_asks.specs.declared.asks.Ask.TheVariants as ask
use Rattle.tx_resolve.specs.declared.whom.EntityRef.{EntityRef}
use Rattle.tx_resolve.specs.declared.whom.EntityRef.TheVariants.{New}
use Rattle.tx_resolve.specs.declared.drafts.Operand.{Operand}
use Rattle.tx_resolve.specs.declared.drafts.Operand.TheVariants.{Plain, Entity}
use Rattle.tx_resolve.specs.declared.drafts.Draft.{Draft}
use Rattle.tx_resolve.specs.declared.drafts.Draft.TheVariants as draft
use Rattle.tx_resolve.specs.declared.meeting.Met.{Met}
use Rattle.tx_resolve.specs.Whoms.{whom_of}

abbrev pub part_of : Db → List (Option ℕ) → Met → asks.Operand → Option Operand
part_of db looked_up met (part.Plain f v) = Some (Plain v)
part_of db looked_up met (part.Entity name) = option_map Entity (whom_of db looked_up met name)

abbrev pub old_part_of : Db → List (Option ℕ) → Met → Option asks.Operand → Option (Option Operand)
old_part_of db looked_up met None = Some None
old_part_of db looked_up met (Some p) = option_map Some (part_of db looked_up met p)

-- the holder of the identity value that an addition gives to a tempid
abbrev pub holder_for : Db → EntityRef → Attribute → Operand → Option ℕ
holder_for db (New tempid) attribute (Plain v) =
    if attribute.unique == unique_identity then holder db.facts attribute.id v else None
holder_for db whom attribute p = None

abbrev pub compares : EntityRef → Bor Attribute → Option Operand → Operand → Draft
compares on attribute old new =
    draft.Compares (record { on = on; attribute = attribute; old = old; new = new })

abbrev pub draft_of : Db → List (Option ℕ) → Met → Ask → Option Draft
draft_of db looked_up met (ask.Adds on attribute p) =
    option_and_then
    (λ whom. option_map
    (λ read. draft.Adds whom attribute read (holder_for db whom attribute.now read))
    (part_of db looked_up met p))
    (whom_of db looked_up met on)
draft_of db looked_up met (ask.Retracts on attribute p) =
    option_and_then
    (λ whom. option_map (draft.Retracts whom attribute) (part_of db looked_up met p))
    (whom_of db looked_up met on)
draft_of db looked_up met (ask.RetractsAll on attribute) =
    option_map (λ whom. draft.RetractsAll whom attribute) (whom_of db looked_up met on)
draft_of db looked_up met (ask.Compares of) =
    option_and_then
    (λ whom. option_and_then
    (λ before. option_map (compares whom of.attribute before) (part_of db looked_up met of.new))
    (old_part_of db looked_up met of.old))
    (whom_of db looked_up met of.on)
draft_of db looked_up met (ask.RetractsEntity on) =
    option_map draft.RetractsEntity (whom_of db looked_up met on)
draft_of db looked_up met (ask.Meets on) = option_map draft.Meets (whom_of db looked_up met on)

-- one of its names finds no entity
abbrev pub is_lost : Db → List (Option ℕ) → Met → Ask → Bool
is_lost db looked_up met asked = is_none (draft_of db looked_up met asked)

-- ---- form by form

-- the first form with a name that finds no entity
abbrev pub lost_at : Db → List (Option ℕ) → Met → List (Vec Ask Global) → Option ℕ
lost_at db looked_up met forms =
    first_yes 0 (map (λ form. list_any (is_lost db looked_up met) form.items) forms)

-- the asks are these drafts, and none is lost
abbrev pub AreFound : Db → List (Option ℕ) → Met → List (Vec Ask Global) → List (Vec Draft Global)
    → Type 0
AreFound db looked_up met forms drafts =
    map (λ form. map Some form.items) drafts
    ≡ map (λ form. map (draft_of db looked_up met) form.items) forms
