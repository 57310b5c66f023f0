-- What a pull gives of each entity under an item.
-- Datomic, Pull (map specifications, component defaults, recursion).
use Rattle.std.specs.Prelude.{ℕ, List, []}
use Rattle.pull_model.specs.Made.{Made, stub}
use Rattle.pull_model.specs.Patterns as patterns
use Rattle.pull_model.specs.Tree.{is_on, unless_met}
use Rattle.pull_pattern.specs.View.{model_pattern}
use Rattle.fb_pull.specs.declared.below.Inner.{Inner}
use Rattle.fb_pull.specs.declared.below.Inner.TheVariants.{Number, Along, Apart}

abbrev pub made_by : (patterns.Pattern → List ℕ → ℕ → Made) → Inner → List ℕ → ℕ → Made
made_by trees Number path n = stub n
made_by trees (Along pattern) path n =
    unless_met (is_on path n) trees (model_pattern pattern) path n
made_by trees (Apart pattern) path n = trees (model_pattern pattern) [] n
