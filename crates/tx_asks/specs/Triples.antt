-- Which forms ask a triple, and which one is the first.
-- This project's own choice; the order of forms matters in refusals alone.
use Rattle.std.specs.Prelude.{◌≡◌, ℕ, Bool, true, false, ◌&&◌, ◌||◌, List, [], ◌∷◌, map, nat_eq}
use Rattle.std.specs.Prelude.{nat_le, Contains, IsTrue, Option}
use Rattle.std.specs.List.{All, list_any}
use Rattle.std.specs.Ordering.{nat_cmp, ordering_then, is_lt}
use Rattle.fb_values.specs.declared.facts.Datom.{Datom}
use Rattle.fb_values.specs.declared.facts.Value.{Value}
use Rattle.fb_values.specs.Orders.{value_cmp}
use Rattle.fb_model.specs.History.{said}
use Rattle.fb_model.specs.Facts.{is_of, value_eq, holds_after}
use Rattle.tx_model.specs.Step.{first_yes}
use Rattle.tx_model.specs.ChangeRules.{at}
use Rattle.tx_model.specs.Transaction.{Transaction}
use Rattle.tx_asks.specs.declared.triples.Asking.{Asking}
use Rattle.tx_asks.specs.declared.triples.Triple.{Triple}

-- ---- askings of one way: `lists` has for each form what it asks in that way

-- it is of the datom's triple
abbrev pub is_asking_of : Datom → Asking → Bool
is_asking_of d asking = is_of asking.e asking.a asking.v d

-- its form asks the triple
abbrev pub IsAsked : List (List Datom) → Asking → Type 0
IsAsked lists asking = IsTrue (list_any (is_of asking.e asking.a asking.v) (at lists asking.place))

-- each is asked by its form,
-- and of each triple that a form asks one is there of this form or of an earlier one
pub record AreAskings (lists : List (List Datom)) (askings : List Asking) : Type 0 where
  pub asked : All (IsAsked lists) askings
  pub whole : (place : ℕ) (d : Datom) → Contains (at lists place) d
      → IsTrue (list_any (λ asking. is_asking_of d asking && nat_le asking.place place) askings)

-- ---- triples

-- the first form that asks the triple
abbrev pub first_asking : List (List Datom) → ℕ → ℕ → Value → Option ℕ
first_asking lists e a v = first_yes 0 (map (list_any (is_of e a v)) lists)

abbrev pub is_triple : ℕ → ℕ → Value → Triple → Bool
is_triple e a v triple = nat_eq triple.e e && nat_eq triple.a a && value_eq triple.v v

-- by entity, attribute and value
abbrev pub is_below : Triple → Triple → Bool
is_below x y =
    is_lt (ordering_then (ordering_then (nat_cmp x.e y.e) (nat_cmp x.a y.a)) (value_cmp x.v y.v))

abbrev pub rise : List Triple → Bool
rise [] = true
rise (x ∷ []) = true
rise (x ∷ y ∷ rest) = is_below x y && rise (y ∷ rest)

-- what the triple says of itself is so
pub record IsExact (tx : Transaction) (triple : Triple) : Type 0 where
  pub added : triple.added ≡ first_asking tx.added triple.e triple.a triple.v
  pub retracted : triple.retracted ≡ first_asking tx.retracted triple.e triple.a triple.v
  pub swept : triple.swept ≡ first_asking tx.swept triple.e triple.a triple.v
  pub replaced : triple.replaced ≡ first_asking tx.replaced triple.e triple.a triple.v
  pub holding : triple.holds ≡ holds_after false (said tx.db.history) triple.e triple.a triple.v

-- some form asks the triple in some way
abbrev pub is_asked : Transaction → ℕ → ℕ → Value → Bool
is_asked tx e a v =
    list_any (list_any (is_of e a v)) tx.added || list_any (list_any (is_of e a v)) tx.retracted
    || list_any (list_any (is_of e a v)) tx.swept || list_any (list_any (is_of e a v)) tx.replaced

-- all that the transaction asks, triple by triple in their order
pub record AreTriples (tx : Transaction) (triples : List Triple) : Type 0 where
  pub rising : IsTrue (rise triples)
  pub exact : All (IsExact tx) triples
  pub whole : (e a : ℕ) (v : Value) → IsTrue (is_asked tx e a v)
      → IsTrue (list_any (is_triple e a v) triples)
