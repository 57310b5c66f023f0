-- Lists of datoms that strictly rise in an order of the indexes.
-- Restates Indexes of Datomic's documentation. That t ascends too is this project's own choice.
use Rattle.std.specs.Prelude.{◌≡◌, Bool, true, ◌&&◌, List, [], ◌∷◌}
use Rattle.std.specs.Ordering.{is_lt}
use Rattle.std.specs.declared.cmp.Ordering.TheVariants.{Less}
use Rattle.fb_values.specs.declared.facts.Datom.{Datom}
use Rattle.fb_values.specs.declared.indexes.Order.{Order}
use Rattle.fb_values.specs.Orders.{key_cmp}

-- each datom's key is below the next one's
abbrev pub rises : Order → List Datom → Bool
rises order [] = true
rises order (d ∷ []) = true
rises order (d ∷ next ∷ rest) = is_lt (key_cmp order d next) && rises order (next ∷ rest)

-- the datom's key is below that of each datom of the list
abbrev pub IsBelowAll : Order → Datom → List Datom → Type 0
IsBelowAll order x [] = Unit {0}
IsBelowAll order x (y ∷ ys) = (key_cmp order x y ≡ Less) × IsBelowAll order x ys

-- each datom's key is below those of all datoms after it
abbrev pub IsRising : Order → List Datom → Type 0
IsRising order [] = Unit {0}
IsRising order (x ∷ xs) = IsBelowAll order x xs × IsRising order xs
