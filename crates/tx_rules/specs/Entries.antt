-- The entry of changes with the instant of their transaction.
-- Datomic, Transaction Data (:db/txInstant).
use Rattle.std.specs.Prelude.{ℕ, ℤ, true, List}
use Rattle.fb_values.specs.declared.facts.Datom.{Datom}
use Rattle.fb_values.specs.declared.facts.Entry.{Entry}
use Rattle.fb_values.specs.declared.facts.Value.TheVariants.{Instant}
use Rattle.fb_values.specs.declared.indexes.Order.TheVariants.{Eavt}
use Rattle.fb_numbers.specs.Numbers.{transaction_of, tx_instant}
use Rattle.fb_model.specs.Rising.{put_in_order}

abbrev pub instant_of : ℕ → ℤ → Datom
instant_of t instant =
    record { e = transaction_of t; a = tx_instant; v = Instant instant; t = t; added = true }

-- changes that are in order
abbrev pub entry_at : ℕ → ℤ → List Datom → Entry
entry_at t instant changes =
    record { t = t; instant = instant; datoms = put_in_order Eavt (instant_of t instant) changes }
