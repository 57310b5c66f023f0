-- The attributes that an entity has in a view.
-- Restates Entities of Datomic's documentation.
-- That they are met in the order of their numbers is this project's own choice.
use Rattle.std.specs.Prelude.{◌≡◌, ◌≤◌, ℕ, List, Option, Some, None}
use Rattle.fb_values.specs.declared.facts.Datom.{Datom}
use Rattle.fb_values.specs.declared.facts.Entry.{Entry}
use Rattle.view_model.specs.Window.{Window}
use Rattle.view_model.specs.View.{InView}

-- a datom of the entity in the view has the attribute
pub record HasAttribute (h : List Entry) (w : Window) (Selects : Datom → Type 0) (e a : ℕ)
    : Type 0 where
  pub datom : Datom
  pub in_view : InView h w Selects datom
  pub of_entity : datom.e ≡ e
  pub of_attribute : datom.a ≡ a

-- the first attribute from the number on that the entity has
abbrev pub IsNextAttribute : List Entry → Window → (Datom → Type 0) → ℕ → ℕ → Option ℕ → Type 0
IsNextAttribute h w Selects e from None =
    (a : ℕ) → from ≤ a → HasAttribute h w Selects e a → ⊥
IsNextAttribute h w Selects e from (Some next) =
    (from ≤ next)
    × HasAttribute h w Selects e next
    × ((a : ℕ) → from ≤ a → HasAttribute h w Selects e a → next ≤ a)
