-- Which entity a name finds in a view, where filters are predicates:
-- a filter need not decide by any test what it selects.
-- Datomic, Schema (entity identifiers) and Database Filters.
use Rattle.std.specs.Prelude.{◌≡◌, ◌≤◌, ℕ, List, IsTrue, Option, Some, None}
use Rattle.fb_values.specs.declared.facts.Datom.{Datom}
use Rattle.fb_values.specs.declared.facts.Entry.{Entry}
use Rattle.fb_values.specs.declared.facts.Value.{Value}
use Rattle.fb_values.specs.declared.facts.Value.TheVariants.{Keyword}
use Rattle.fb_numbers.specs.Numbers.{ident as ident_attribute}
use Rattle.fb_model.specs.Facts.{is_of}
use Rattle.view_model.specs.Window.{Window, without_history}
use Rattle.view_model.specs.View.{InView}
use Rattle.view_model.specs.Names.{Id, number, ident, lookup}

-- the entity has the value in the view without history
pub record Has (h : List Entry) (w : Window) (Selects : Datom → Type 0) (a : ℕ) (v : Value)
    (e : ℕ) : Type 0 where
  pub datom : Datom
  pub in_view : InView h (without_history w) Selects datom
  pub says : IsTrue (is_of e a v datom)

-- the least entity that has the value; none where no entity has it
abbrev pub IsHolder : List Entry → Window → (Datom → Type 0) → ℕ → Value → Option ℕ → Type 0
IsHolder h w Selects a v None = (e : ℕ) → Has h w Selects a v e → ⊥
IsHolder h w Selects a v (Some e) =
    Has h w Selects a v e × ((other : ℕ) → Has h w Selects a v other → e ≤ other)

-- the entity that a name finds: a number is itself
abbrev pub IsNamed : List Entry → Window → (Datom → Type 0) → Id → Option ℕ → Type 0
IsNamed h w Selects (number n) answer = answer ≡ Some n
IsNamed h w Selects (ident name) answer = IsHolder h w Selects ident_attribute (Keyword name) answer
IsNamed h w Selects (lookup a v) answer = IsHolder h w Selects a v answer
