-- The summary that the generator prints of the last value of the database.
-- This project's own choice.
use Rattle.std.specs.Prelude.{◌≡◌, ℕ, ℤ, pos, ◌+ℤ◌, List, [], ◌++◌, fold, length, Option, Some}
use Rattle.std.specs.Prelude.{None, codes, decimal}
use Rattle.std.specs.Fmt.{signed_decimal}
use Rattle.std.specs.Option.{option_map}
use Rattle.fb_values.specs.declared.facts.Datom.{Datom}
use Rattle.fb_values.specs.declared.facts.Entry.{Entry}
use Rattle.fb_values.specs.declared.facts.Value.{Value}
use Rattle.fb_values.specs.declared.facts.Value.TheVariants.{Long}
use Rattle.fb_values.specs.declared.indexes.Order.TheVariants.{Aevt}
use Rattle.fb_values.specs.declared.indexes.Probe.{Probe}
use Rattle.fb_model.specs.History.{basis}
use Rattle.fb_model.specs.Facts.{facts}
use Rattle.fb_model.specs.Schema.{attribute_named}
use Rattle.view_model.specs.Window.{Window, whole, with_history}
use Rattle.view_model.specs.Scan.{leading, IsScan}

-- the attribute of the generator's numbers
abbrev pub number_name : List ℕ
number_name = codes "load/num"

abbrev pub numbers_in : List Entry → Option ℕ
numbers_in h = option_map (λ attribute. attribute.id) (attribute_named (facts h) number_name)

-- leads to all datoms of an attribute
abbrev pub all_of : ℕ → Probe
all_of a = record { order = Aevt; e = None; a = Some a; v = None; t = None }

-- the datoms of the attribute that the window shows, where there is one
abbrev pub IsOfAttribute : List Entry → Window → Option ℕ → List Datom → Type 0
IsOfAttribute h window None ds = ds ≡ []
IsOfAttribute h window (Some a) ds = IsScan h window (λ d. Unit {0}) Aevt (leading (all_of a)) ds

-- a number; another value counts for nothing
abbrev pub long_in : Value → ℤ
long_in (Long n) = n
long_in v = pos 0

abbrev pub total : List Datom → ℤ
total = fold (λ sum d. sum +ℤ long_in d.v) (pos 0)

-- the basis; how many numbers hold, and their sum; and how many datoms were ever recorded of them
abbrev pub summary_line : ℕ → List Datom → List Datom → List ℕ
summary_line basis numbers history =
    codes "{:sessions 4 :basis "
    ++ (decimal basis ++ (codes " :numbers "
    ++ (decimal (length numbers) ++ (codes " :sum "
    ++ (signed_decimal (total numbers) ++ (codes " :history "
    ++ (decimal (length history) ++ codes "}\n")))))))

-- the line is about this history
pub record IsSummary (h : List Entry) (line : List ℕ) : Type 0 where
  pub numbers : List Datom
  pub history : List Datom
  pub holding : IsOfAttribute h whole (numbers_in h) numbers
  pub recorded : IsOfAttribute h (with_history whole) (numbers_in h) history
  pub is : line ≡ summary_line (basis h) numbers history
