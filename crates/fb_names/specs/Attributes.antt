-- Attributes as an index is asked for them.
-- Datomic, Indexes.
use Rattle.std.specs.Prelude.{ℕ, if◌then◌else◌, Option, Some, None, Result, Ok, Err}
use Rattle.fb_values.specs.declared.indexes.Order.{Order}
use Rattle.fb_model.specs.Schema.{Attribute, is_held}
use Rattle.read_refusals.specs.declared.reasons.Reason.TheVariants.{BadComponent, NotInIndex}
use Rattle.read_refusals.specs.declared.reasons.Refusal.{Refusal}
use Rattle.read_model.specs.Given.{refusal}
use Rattle.fb_names.specs.declared.given.Typed.{Typed}

abbrev pub typed : Attribute → Typed
typed attribute = record { id = attribute.id; kind = attribute.kind }

-- the attribute with its type, if there is one and the index holds it
abbrev pub typed_or : Order → ℕ → Option Attribute → Result Typed Refusal
typed_or order at None = Err (refusal BadComponent at)
typed_or order at (Some attribute) =
    if is_held order attribute then Ok (typed attribute) else Err (refusal NotInIndex at)
