-- Datoms that lie together in a table.
use Rattle.std.proofs.Common.{◌≡◌, ◌∙◌, ℕ, zero, suc, ◌+◌, ◌-◌, ◌<◌, ◌≤◌, List, [], ◌∷◌, ◌++◌, length, length-append, length-drop, take, drop, get_or, refl, sym, ap}
use Rattle.std.proofs.Common.{arith}
use Rattle.std.specs.Prelude.{Contains}
use Rattle.std.proofs.lemmas.List.{drop-append-le, get_or_default, take-append-le, take_all}
use Rattle.fb_values.specs.declared.facts.Datom.{Datom}
use Rattle.live_runs.specs.Members.{datom_of, nothing}
use Rattle.live_index.specs.declared.gathering.Span.{Span}
use Rattle.live_index.specs.Ranks.{IsSpan, span_of}
use Rattle.live_index.proofs.Growing.{from_take}
use Rattle.live_index.proofs.Walking.{from_drop}

drop_all : (xs ys : List Datom) → drop (length xs) (xs ++ ys) ≡ ys
drop_all [] ys = refl
drop_all (x ∷ xs) ys = drop_all xs ys

pub drop_front : (first : ℕ) (table xs ys : List Datom) → first ≡ length xs → table ≡ xs ++ ys → drop first table ≡ ys
drop_front first table xs ys at is = ap (drop first) is ∙ ap (λ n. drop n (xs ++ ys)) at ∙ drop_all xs ys

-- what came last
pub record IsLast (table more : List Datom) (s : Span) : Type 0 where
  pub span : IsSpan (table ++ more) s
  pub is : span_of (table ++ more) s ≡ more

pub span_last : (table more : List Datom) (s : Span) → s.from ≡ length table → s.to ≡ length (table ++ more) → IsLast table more s
span_last table more s from to =
    record {
      span = record { rises = omega (arith, from, to, length-append table more); within = omega (arith, to) };
      is =
          ap (take (s.to - s.from)) (drop_front s.from (table ++ more) table more from refl)
          ∙ take_all (s.to - s.from) more (omega (arith, from, to, length-append table more));
    }

-- it stays where it is
pub span_longer : (table more : List Datom) (s : Span) → IsSpan table s → IsSpan (table ++ more) s
span_longer table more s is = record { rises = is.rises; within = omega (arith, is.within, length-append table more) }

pub span_same : (table more : List Datom) (s : Span) → IsSpan table s → span_of (table ++ more) s ≡ span_of table s
span_same table more s is =
    ap (take (s.to - s.from)) (drop-append-le s.from table more (omega (arith, is.rises, is.within)))
    ∙ take-append-le (s.to - s.from) (drop s.from table) more (omega (arith, is.within, length-drop s.from table))

pub span_within : (table : List Datom) (s : Span) (d : Datom) → Contains (span_of table s) d → Contains table d
span_within table s d there = from_drop table s.from d (from_take (s.to - s.from) (drop s.from table) d there)

-- ---- by numbers

-- the datom of a number, and its place among those from another number on
pub number_at : (table : List Datom) (first number : ℕ) (e : Datom) → first ≤ number
    → get_or (drop first table) (number - first) e ≡ get_or table number e
number_at table zero number e low = let whole : number - 0 ≡ number = omega arith in rw whole refl
number_at [] (suc first) number e low = refl
number_at (x ∷ table) (suc first) zero e low = absurd (omega arith)
number_at (x ∷ table) (suc first) (suc number) e low =
    let fewer : suc number - suc first ≡ number - first = omega arith in
    rw fewer (number_at table first number e (omega arith))

pub number_within : (table : List Datom) (first number : ℕ) → first ≤ number → number < length table
    → number - first < length (drop first table)
number_within table first number low high = omega (arith, low, high, length-drop first table)

pub next_number : (first number : ℕ) → first ≤ number → (number + 1) - first ≡ (number - first) + 1
next_number first number low = omega arith

pub datom_at : (table : List Datom) (first number : ℕ) → first ≤ number → number < length table
    → datom_of table number ≡ get_or (drop first table) (number - first) (datom_of table number)
datom_at table first number low high =
    get_or_default table number nothing (datom_of table number) high ∙ sym (number_at table first number (datom_of table number) low)

pub number_in : (table : List Datom) (number : ℕ) → number < length table → Contains table (datom_of table number)
number_in table number high = (number, high, get_or_default table number (datom_of table number) nothing high)
