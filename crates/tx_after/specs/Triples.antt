-- Lists that have one datom for each triple, in the order of an index.
-- This project's own choice.
use Rattle.std.specs.Prelude.{ℕ, Bool, true, not, ◌&&◌, List, [], ◌∷◌, ◌++◌, filter}
use Rattle.std.specs.List.{list_all, list_any}
use Rattle.std.specs.Ordering.{is_lt}
use Rattle.std.specs.declared.cmp.Ordering.{Ordering}
use Rattle.fb_values.specs.Orders.{key_cmp}
use Rattle.fb_values.specs.declared.facts.Datom.{Datom}
use Rattle.fb_values.specs.declared.facts.Value.{Value}
use Rattle.fb_values.specs.declared.indexes.Order.{Order}
use Rattle.fb_model.specs.Rising.{in_order}
use Rattle.fb_model.specs.Facts.{is_of}

abbrev pub without_t : Datom → Datom
without_t d = record d { t = 0 }

-- the value as a fact of the entity under the attribute, of no t
abbrev pub without_time : ℕ → ℕ → Value → Datom
without_time e a v = record { e = e; a = a; v = v; t = 0; added = true }

-- by all components of the order but t
abbrev pub triple_cmp : Order → Datom → Datom → Ordering
triple_cmp order x y = key_cmp order (without_t x) (without_t y)

-- each triple is below all triples after it
abbrev pub triples_rise : Order → List Datom → Bool
triples_rise order [] = true
triples_rise order (d ∷ ds) =
    list_all (λ other. is_lt (triple_cmp order d other)) ds && triples_rise order ds

-- none of the datoms is of the triple of the one
abbrev pub is_unmentioned : List Datom → Datom → Bool
is_unmentioned changes d = not (list_any (is_of d.e d.a d.v) changes)

abbrev pub is_added : Datom → Bool
is_added d = d.added

-- the facts from before whose triples no change concerns, and the additions
abbrev pub with_changes : Order → List Datom → List Datom → List Datom
with_changes order before changes =
    in_order order (filter (is_unmentioned changes) before ++ filter is_added changes)
