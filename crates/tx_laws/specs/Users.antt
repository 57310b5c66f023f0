-- Which numbers an entry may speak of, and how its new user entities are counted.
-- This project's own choice.
use Rattle.std.specs.Prelude.{ℕ, ◌+◌, Bool, true, ◌&&◌, ◌||◌, List, [], ◌∷◌, map, filter, ◌==◌}
use Rattle.std.specs.Prelude.{nat_eq, nat_le, if◌then◌else◌}
use Rattle.fb_values.specs.declared.facts.Datom.{Datom}
use Rattle.fb_values.specs.declared.facts.Value.{Value}
use Rattle.fb_values.specs.declared.facts.Value.TheVariants.{Ref}
use Rattle.fb_numbers.specs.Numbers.{transaction_of, user_entity, user_number, is_builtin}
use Rattle.tx_laws.specs.declared.numbers.KnownNumbers.{KnownNumbers}

-- the user numbers of the entities of additions
abbrev pub added_users : List Datom → List ℕ
added_users ds = map (λ d. user_number d.e) (filter (λ d. d.added) ds)

-- how far numbers that do not fall go on after the last one without a gap
abbrev pub counted_on : List ℕ → ℕ → ℕ
counted_on [] last = last
counted_on (n ∷ ns) last = counted_on ns (if n == last + 1 then n else last)

-- a built-in entity, a transaction up to the entry's own, or a user entity up to the last one
abbrev pub is_known : KnownNumbers → ℕ → Bool
is_known known n =
    is_builtin n
    || (nat_le (transaction_of 0) n && nat_le n (transaction_of known.basis))
    || nat_eq n (transaction_of known.t)
    || (nat_le (user_entity 1) n && nat_le n (user_entity known.users))

abbrev pub is_known_value : KnownNumbers → Value → Bool
is_known_value known (Ref n) = is_known known n
is_known_value known v = true

abbrev pub is_known_datom : KnownNumbers → Datom → Bool
is_known_datom known d = is_known known d.e && is_known_value known d.v
