-- What the tables of a schema hold, beside the facts that they were made of.
-- This project's own choice.
use Rattle.std.specs.Prelude.{◌≡◌, ℕ, List}
use Rattle.std.specs.Option.{option_map}
use Rattle.std.specs.Ordering.{nat_cmp}
use Rattle.shared_map.specs.Entries.{get}
use Rattle.fb_values.specs.declared.facts.Datom.{Datom}
use Rattle.fb_values.specs.declared.indexes.Order.{Order}
use Rattle.fb_covers.specs.Coverage.{Coverage, covers as held}
use Rattle.fb_model.specs.Schema.{attribute_of, covers}
use Rattle.fb_schema.specs.declared.attribute.Attribute.{Attribute}
use Rattle.fb_schema.specs.Parts.{model_attribute}

-- the attributes by their numbers
abbrev pub HasAttributes : List (ℕ × Attribute) → List Datom → Type 0
HasAttributes attributes facts =
    (e : ℕ) → option_map model_attribute (get nat_cmp attributes e) ≡ attribute_of facts e

-- the attributes that each index holds
abbrev pub HasCoverage : Coverage → List Datom → Type 0
HasCoverage coverage facts = (order : Order) (a : ℕ) → held coverage order a ≡ covers facts order a
