-- The order of triples.
-- This project's own choice.
use Rattle.std.specs.Prelude.{ℕ}
use Rattle.std.specs.Ordering.{nat_cmp, ordering_then}
use Rattle.std.specs.declared.cmp.Ordering.{Ordering}
use Rattle.fb_values.specs.declared.facts.Value.{Value}
use Rattle.fb_values.specs.Orders.{value_cmp}

-- by entity, attribute and value
abbrev pub triple_cmp : ℕ × ℕ × Value → ℕ × ℕ × Value → Ordering
triple_cmp x y =
    ordering_then (ordering_then (nat_cmp x.0 y.0) (nat_cmp x.1 y.1)) (value_cmp x.2 y.2)
