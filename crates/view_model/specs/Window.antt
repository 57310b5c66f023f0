-- Windows: which transactions a view sees, whether it sees their history, and how as-of and since
-- change that.
-- Datomic, Database Filters and Log API.
use Rattle.std.specs.Prelude.{ℕ, ◌+◌, ◌-◌, ℤ, Bool, true, false, ◌&&◌, List, filter, length, min}
use Rattle.std.specs.Prelude.{max, nat_lt, nat_le, int_le, if◌then◌else◌, Option, Some, None}
use Rattle.fb_values.specs.declared.facts.Datom.{Datom}
use Rattle.fb_values.specs.declared.facts.Entry.{Entry}
use Rattle.fb_numbers.specs.Numbers.{transaction_of, greatest_t}

-- the transactions from t `from` on and before t `to`
pub record Window : Type 0 where
  pub from : ℕ
  pub to : ℕ
  -- every datom is seen, also what was retracted
  pub history : Bool

-- a database value as it is handed out
abbrev pub whole : Window
whole = record { from = 0; to = greatest_t + 1; history = false }

-- nothing from the end on
abbrev pub as_of : ℕ → Window → Window
as_of end w = record { from = w.from; to = min w.to end; history = w.history }

-- nothing before the end
abbrev pub since : ℕ → Window → Window
since end w = record { from = max w.from end; to = w.to; history = w.history }

abbrev pub with_history : Window → Window
with_history w = record { from = w.from; to = w.to; history = true }

abbrev pub without_history : Window → Window
without_history w = record { from = w.from; to = w.to; history = false }

-- ---- points in time: the end of a point is the t after the last transaction up to it

-- of a t, or of the entity of a transaction; another number is no point
abbrev pub end_of_number : ℕ → Option ℕ
end_of_number n =
    if nat_le n greatest_t then Some (n + 1)
    else (if nat_le (transaction_of 0) n && nat_le n (transaction_of greatest_t)
    then Some (n - transaction_of 0 + 1)
    else None)

-- of an instant: the number of transactions recorded up to it
abbrev pub end_of_instant : List Entry → ℤ → ℕ
end_of_instant h instant = length (filter (λ entry. int_le entry.instant instant) h)

-- ---- the datoms of a window

abbrev pub is_within : Window → Datom → Bool
is_within w d = nat_le w.from d.t && nat_lt d.t w.to

abbrev pub within : Window → List Datom → List Datom
within w ds = filter (is_within w) ds
