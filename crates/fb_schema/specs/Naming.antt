-- What the table of names holds.
-- This project's own choice.
use Rattle.std.specs.Prelude.{◌≡◌, ℕ, Bool, false, List, length, is_some}
use Rattle.std.specs.List.{list_any}
use Rattle.std.specs.Option.{option_map_or}
use Rattle.std.specs.Ordering.{nat_cmp, on, then_cmp}
use Rattle.std.specs.Cmp.{IsTotalOrder, on_total, then_total, nat_cmp_total}
use Rattle.std.specs.Cmp.Lexicographic.{slice_cmp, nat_list_cmp_total}
use Rattle.std.specs.declared.cmp.Ordering.{Ordering}
use Rattle.shared_map.specs.Entries.{get}
use Rattle.fb_values.specs.declared.facts.Datom.{Datom}
use Rattle.fb_values.specs.declared.facts.Value.TheVariants.{Keyword}
use Rattle.fb_numbers.specs.Numbers.{ident}
use Rattle.fb_model.specs.Facts.{is_of}

-- the order of idents: by their lengths, and then by their bytes
abbrev pub name_cmp : List ℕ → List ℕ → Ordering
name_cmp = then_cmp (on length nat_cmp) (slice_cmp nat_cmp)

pub name_cmp_total : IsTotalOrder name_cmp
name_cmp_total = then_total (on_total length nat_cmp_total) nat_list_cmp_total

-- the entities by their idents
abbrev pub Entities : Type 0
Entities = List (List ℕ × List (ℕ × Unit {0}))

abbrev pub is_name_of : Entities → List ℕ → ℕ → Bool
is_name_of names name e =
    option_map_or (λ entities. is_some (get nat_cmp entities e))
    (get name_cmp names name) false

-- they are those of the facts
abbrev pub HasNames : Entities → List Datom → Type 0
HasNames names facts =
    (name : List ℕ) (e : ℕ)
    → is_name_of names name e ≡ list_any (is_of e ident (Keyword name)) facts
