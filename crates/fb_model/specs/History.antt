-- Histories: the entries 0, 1, 2 and so on of a database,
-- its issued numbers and the instant of the entry that comes next.
-- Datomic, Transaction Data and Log API.
-- That a transaction's instant is above the last one is this project's own choice.
use Rattle.std.specs.Prelude.{ℕ, ◌+◌, ℤ, pos, ◌+ℤ◌, Bool, ◌&&◌, ◌||◌, List, [], ◌∷◌, nat_le, max}
use Rattle.std.specs.Prelude.{fold, flat_map, take, IsTrue}
use Rattle.std.specs.Int.{int_min, int_max}
use Rattle.fb_values.specs.declared.facts.Datom.{Datom}
use Rattle.fb_values.specs.declared.facts.Entry.{Entry}
use Rattle.fb_numbers.specs.Numbers.{transaction_of, user_entity, user_number, is_builtin}
use Rattle.fb_numbers.specs.Numbers.{least_instant, greatest_instant}

-- the t of the last entry
abbrev pub basis : List Entry → ℕ
basis h = fold (λ _ entry. entry.t) 0 h

-- the entries 0 to t
abbrev pub upto : List Entry → ℕ → List Entry
upto h t = take (t + 1) h

-- the instant of the last entry
abbrev pub last_instant : List Entry → ℤ
last_instant h = fold (λ _ entry. entry.instant) (pos 0) h

-- the reading of a clock, brought into the range of instants
abbrev pub into_range : ℤ → ℤ
into_range reading = int_min (int_max reading least_instant) greatest_instant

-- the instant of the next entry: what the clock reads, and at least one more than the last instant
abbrev pub next_instant : List Entry → ℤ → ℤ
next_instant h reading = int_max (into_range reading) (last_instant h +ℤ pos 1)

-- what the entries record, one after another
abbrev pub said : List Entry → List Datom
said h = flat_map (λ entry. entry.datoms) h

-- the greatest n of a user entity that is the entity of a datom, or 0
abbrev pub users_in : List Datom → ℕ
users_in [] = 0
users_in (d ∷ ds) = max (user_number d.e) (users_in ds)

abbrev pub users_issued : List Entry → ℕ
users_issued h = users_in (said h)

-- the number is that of an entity:
-- a built-in one, a transaction of the history, or one of its user entities
abbrev pub is_issued : List Entry → ℕ → Bool
is_issued h n =
    is_builtin n
    || (nat_le (transaction_of 0) n && nat_le n (transaction_of (basis h)))
    || (nat_le (user_entity 1) n && nat_le n (user_entity (users_issued h)))

abbrev pub IsIssued : List Entry → ℕ → Type 0
IsIssued h n = IsTrue (is_issued h n)
