-- How rows are gathered: a list of datoms for each attribute, and the first value of an entity in
-- each list.
-- This project's own choice.
use Rattle.std.specs.Prelude.{ℕ, List, [], ◌∷◌, map, flat_map, nat_eq, if◌then◌else◌, Option, Some, Vec}
use Rattle.std.specs.Prelude.{None}
use Rattle.std.specs.List.Sorted.{IsNonDecreasingBy}
use Rattle.std.specs.Borrow.{Bor}
use Rattle.std.specs.declared.alloc.Global.{Global}
use Rattle.fb_values.specs.declared.facts.Datom.{Datom}
use Rattle.fb_values.specs.declared.facts.Entry.{Entry}
use Rattle.fb_values.specs.declared.facts.Value.{Value}
use Rattle.fb_values.specs.declared.indexes.Order.TheVariants.{Aevt}
use Rattle.fb_values.specs.declared.indexes.Probe.{Probe}
use Rattle.view_model.specs.Window.{Window}
use Rattle.view_model.specs.Scan.{IsScan, leading}
use Rattle.tuple_model.specs.Tuples.{Row}
use Rattle.fb_tuples.specs.Lent.{datoms_lent}

abbrev pub under : ℕ → Probe
under a = record { order = Aevt; e = None; a = Some a; v = None; t = None }

-- for each attribute what the view has of it
abbrev pub AreLists : List Entry → Window → (Datom → Type 0) → List ℕ → List (List Datom) → Type 0
AreLists h w Selects [] [] = Unit {0}
AreLists h w Selects [] (ds ∷ lists) = ⊥
AreLists h w Selects (a ∷ attrs) [] = ⊥
AreLists h w Selects (a ∷ attrs) (ds ∷ lists) =
    IsScan h w Selects Aevt (leading (under a)) ds × AreLists h w Selects attrs lists

-- in the order of their entities
unfoldable pub AreByEntity : List Datom → Type 0
AreByEntity ds = IsNonDecreasingBy (λ d. d.e) ds

abbrev pub IsByEntity : Vec (Bor Datom) Global → Type 0
IsByEntity list = AreByEntity (datoms_lent list.items)

abbrev pub entities_in : List (List Datom) → List ℕ
entities_in lists = flat_map (map (λ d. d.e)) lists

abbrev pub first_of : ℕ → List Datom → Option Value
first_of e [] = None
first_of e (d ∷ ds) = if nat_eq d.e e then Some d.v else first_of e ds

abbrev pub row_in : List (List Datom) → ℕ → Row
row_in lists e = record { tuple = map (first_of e) lists; e = e }
