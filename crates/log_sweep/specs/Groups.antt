-- The laws that compare datoms with one another, each on the groups that it brings them in.
-- Datomic, Transaction Data and Schema (:db/cardinality, :db/unique), as this project reads them.
use Rattle.std.specs.Prelude.{ℕ, ◌+◌, ◌-◌, Bool, true, false, not, ◌&&◌, ◌||◌, List, [], ◌∷◌, filter}
use Rattle.std.specs.Prelude.{nat_eq, nat_le, if◌then◌else◌, IsTrue, map}
use Rattle.std.specs.Ordering.{nat_cmp, ordering_then, is_eq}
use Rattle.std.specs.declared.cmp.Ordering.{Ordering}
use Rattle.std.specs.Borrow.{Bor}
use Rattle.fb_values.specs.Orders.{value_cmp}
use Rattle.fb_values.specs.declared.facts.Datom.{Datom}
use Rattle.fb_model.specs.Schema.{is_one, is_unique}
use Rattle.log_sweep.specs.declared.law.Law.{Law}
use Rattle.log_sweep.specs.declared.law.Law.TheVariants.{ChangesAlone, OneValueEach, OneHolderEach}

abbrev pub lent : List (Bor Datom) → List Datom
lent ds = map (λ d. d.now) ds

-- ---- groups

-- by the triple, by the entity and the attribute, and by the attribute and the value
abbrev pub group_cmp : Law → Datom → Datom → Ordering
group_cmp ChangesAlone x y =
    ordering_then (ordering_then (nat_cmp x.e y.e) (nat_cmp x.a y.a)) (value_cmp x.v y.v)
group_cmp OneValueEach x y = ordering_then (nat_cmp x.e y.e) (nat_cmp x.a y.a)
group_cmp OneHolderEach x y = ordering_then (nat_cmp x.a y.a) (value_cmp x.v y.v)

abbrev pub alike : Law → Datom → Datom → Bool
alike law x y = is_eq (group_cmp law x y)

-- the law asks something of the attribute's groups
abbrev pub asks_of : Law → List Datom → ℕ → Bool
asks_of ChangesAlone schema a = true
asks_of OneValueEach schema a = is_one schema a
asks_of OneHolderEach schema a = is_unique schema a

-- ---- what is asked of a group, whose datoms are in the order of time

-- how many stand after the datom, where n stand before it
abbrev pub stands : ℕ → Datom → ℕ
stands n d = if d.added then n + 1 else n - 1

-- the law allows the datom: it changes something,
-- or at most one stands after it where the group's next datom is of another entry
abbrev pub allows : Law → List Datom → ℕ → Datom → Bool → Bool
allows ChangesAlone schema n d goes_on = if d.added then nat_eq n 0 else not (nat_eq n 0)
allows OneValueEach schema n d goes_on =
    goes_on || (nat_le (stands n d) 1 || not (is_one schema d.a))
allows OneHolderEach schema n d goes_on =
    goes_on || (nat_le (stands n d) 1 || not (is_unique schema d.a))

-- the first of the datoms is of this t
abbrev pub is_at : ℕ → List Datom → Bool
is_at t [] = false
is_at t (d ∷ ds) = nat_eq d.t t

abbrev pub keeps_in : Law → List Datom → ℕ → List Datom → Bool
keeps_in law schema n [] = true
keeps_in law schema n (d ∷ ds) =
    allows law schema n d (is_at d.t ds) && keeps_in law schema (stands n d) ds

-- each group of the datoms keeps the law
abbrev pub Keeps : Law → List Datom → List Datom → Type 0
Keeps law schema ds =
    (d : Datom) → IsTrue (asks_of law schema d.a)
    → IsTrue (keeps_in law schema 0 (filter (alike law d) ds))

-- those of one place do, and the triples in them
pub record KeepPlaces (schema : List Datom) (ds : List Datom) : Type 0 where
  pub changes : Keeps ChangesAlone schema ds
  pub values : Keeps OneValueEach schema ds

pub record KeepTogether (schema : List Datom) (ds : List Datom) : Type 0 where
  pub places : KeepPlaces schema ds
  pub holders : Keeps OneHolderEach schema ds
