-- Values of unique attributes that two entities would have. Datomic, Schema (:db/unique).
use Rattle.std.specs.Prelude.{ℕ, Bool, false, not, ◌&&◌, ◌||◌, List, length, filter, nat_eq, nat_le}
use Rattle.std.specs.Prelude.{nat_lt, if◌then◌else◌, Option, None}
use Rattle.std.specs.List.{list_any}
use Rattle.std.specs.List.Sorted.{IsSortedBy}
use Rattle.std.specs.Option.{option_map_or}
use Rattle.std.specs.Ordering.{is_lt, nat_cmp, ordering_then}
use Rattle.std.specs.declared.cmp.Ordering.{Ordering}
use Rattle.fb_values.specs.declared.facts.Datom.{Datom}
use Rattle.fb_values.specs.declared.facts.Entry.{Entry}
use Rattle.fb_values.specs.Orders.{value_cmp}
use Rattle.fb_numbers.specs.Numbers.{user_number}
use Rattle.fb_model.specs.History.{users_issued}
use Rattle.fb_model.specs.Facts.{is_of, value_eq, holder, facts}
use Rattle.fb_model.specs.Schema.{is_identity, is_unique}
use Rattle.tx_asks.specs.declared.triples.Triple.{Triple}
use Rattle.tx_rules.specs.Places.{first_where}
use Rattle.tx_rules.specs.Neighbours.{are_of_one_value}
use Rattle.tx_rules.specs.Conflicts.{is_addition}

-- it gives a value of a unique attribute
abbrev pub is_taker : List Datom → Triple → Bool
is_taker schema t = is_addition t && is_unique schema t.a

-- the other one gives the same value to another entity
abbrev pub is_other_taker : Triple → Triple → Bool
is_other_taker t other =
    is_addition other && nat_eq other.a t.a && value_eq other.v t.v && not (nat_eq other.e t.e)

-- another entity has the value, and no change takes it away
abbrev pub has_another_holder : List Entry → List Datom → Triple → Bool
has_another_holder h changes t =
    option_map_or (λ e. not (nat_eq e t.e) && not (list_any (is_of e t.a t.v) changes))
    (holder (facts h) t.a t.v) false

-- the entity is a new one, and the attribute identifies entities:
-- a tempid that is given a value with a holder is that holder
abbrev pub is_newcomer : ℕ → List Datom → Triple → Bool
is_newcomer issued schema t = nat_lt issued (user_number t.e) && is_identity schema t.a

-- no other entity can have the value: this one has it, or it is a newcomer
abbrev pub is_sole_holder : List Entry → List Datom → Triple → Bool
is_sole_holder h schema t = t.holds || is_newcomer (users_issued h) schema t

-- another entity has the value where one can have it, and no change takes it away
abbrev pub is_held_by_another : List Entry → List Datom → List Datom → Triple → Bool
is_held_by_another h schema changes t =
    not (is_sole_holder h schema t) && has_another_holder h changes t

abbrev pub held_at : List Entry → List Datom → List Datom → Triple → Option ℕ
held_at h schema changes t = if is_held_by_another h schema changes t then t.added else None

abbrev pub is_shared : List Entry → List Datom → List Datom → List Triple → Triple → Bool
is_shared h schema changes triples t =
    list_any (is_other_taker t) triples || is_held_by_another h schema changes t

abbrev pub first_shared : List Datom → List Entry → List Datom → List Triple → Option ℕ
first_shared schema h changes triples =
    first_where (λ t. is_taker schema t && is_shared h schema changes triples t) (λ t. t.added)
    triples

-- ---- by attribute and value

abbrev pub value_order : Triple → Triple → Ordering
value_order x y = ordering_then (nat_cmp x.a y.a) (value_cmp x.v y.v)

abbrev pub AreByValue : List Triple → Type 0
AreByValue takers = IsSortedBy (λ x y. is_lt (value_order x y)) takers

-- more than one of them gives the value
abbrev pub is_taken_twice : List Triple → Triple → Bool
is_taken_twice takers t = nat_le 2 (length (filter (are_of_one_value t) takers))

abbrev pub first_among : List Entry → List Datom → List Datom → List Triple → Option ℕ
first_among h schema changes takers =
    first_where (λ t. is_taken_twice takers t || is_held_by_another h schema changes t)
    (λ t. t.added) takers
