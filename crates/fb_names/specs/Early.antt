-- The entries of a history that are early.
-- Datomic, Database Filters and Log API (instants as points in time).
use Rattle.std.specs.Prelude.{ℕ, ℤ, Bool, not, List, filter, length, int_le}
use Rattle.fb_values.specs.declared.facts.Entry.{Entry}
use Rattle.fb_names.specs.declared.instants.Early.{Early}
use Rattle.fb_names.specs.declared.instants.Early.TheVariants.{Before, UpTo}

abbrev pub is_early : Early → ℤ → Bool
is_early (Before end) instant = not (int_le end instant)
is_early (UpTo end) instant = int_le instant end

abbrev pub count_early : List Entry → Early → ℕ
count_early h early = length (filter (λ entry. is_early early entry.instant) h)
