-- What is asked of triples, asking by asking, and the triples that this makes.
-- This project's own choice.
use Rattle.std.specs.Prelude.{◌≡◌, ℕ, ◌+◌, Bool, true, false, ◌&&◌, List, [], ◌∷◌, ◌++◌}
use Rattle.std.specs.Prelude.{map, flat_map, nat_eq, filter, fold, if◌then◌else◌, Contains, IsTrue, Option, None}
use Rattle.std.specs.List.{All, list_any}
use Rattle.std.specs.Ordering.{nat_cmp, ordering_then}
use Rattle.std.specs.declared.cmp.Ordering.{Ordering}
use Rattle.fb_values.specs.declared.facts.Datom.{Datom}
use Rattle.fb_values.specs.declared.facts.Entry.{Entry}
use Rattle.fb_values.specs.declared.facts.Value.{Value}
use Rattle.fb_values.specs.Orders.{value_cmp}
use Rattle.fb_model.specs.Facts.{value_eq, least, holds, Holds}
use Rattle.tx_model.specs.Transaction.{Transaction}
use Rattle.tx_asks.specs.declared.triples.Asking.{Asking}
use Rattle.tx_asks.specs.declared.triples.Triple.{Triple}
use Rattle.tx_asks.specs.Acts.{Act}
use Rattle.tx_asks.specs.Triples.{is_triple, rise, AreAskings}
use Rattle.tx_changes.specs.declared.noted.AskedAs.{AskedAs}
use Rattle.tx_changes.specs.declared.noted.AskedAs.TheVariants.{Added, Retracted, Swept, Replaced}
use Rattle.tx_changes.specs.declared.noted.Noted.{Noted}
use Rattle.tx_changes.specs.Asked.{asked_by, asking_holds, replaced_of}

-- ---- askings and their ways

abbrev pub is_way : AskedAs → AskedAs → Bool
is_way Added Added = true
is_way Retracted Retracted = true
is_way Swept Swept = true
is_way Replaced Replaced = true
is_way way other = false

abbrev pub as_way : AskedAs → Asking → Noted
as_way way asking = record { asking = asking; way = way }

-- those of this way
abbrev pub askings_as : AskedAs → List Noted → List Asking
askings_as way noted = map (λ n. n.asking) (filter (λ n. is_way way n.way) noted)

-- what a transaction asks in this way, form by form
abbrev pub asked_as : AskedAs → Transaction → List (List Datom)
asked_as Added tx = tx.added
asked_as Retracted tx = tx.retracted
asked_as Swept tx = tx.swept
asked_as Replaced tx = tx.replaced

-- all that a transaction asks
abbrev pub AreNoted : Transaction → List Noted → Type 0
AreNoted tx noted = (way : AskedAs) → AreAskings (asked_as way tx) (askings_as way noted)

-- what is asked in this way was found in the database, so it holds
abbrev pub is_found : AskedAs → Bool
is_found Swept = true
is_found Replaced = true
is_found way = false

abbrev pub IsFoundHeld : List Entry → Noted → Type 0
IsFoundHeld h noted =
    IsTrue (is_found noted.way) → Holds h noted.asking.e noted.asking.a noted.asking.v

-- ---- what acts ask

-- an addition, behind what it replaces
abbrev pub added_by : List Entry → List Datom → Asking → List Noted
added_by h schema addition =
    map (as_way Replaced) (replaced_of h schema addition) ++ as_way Added addition ∷ []

-- an act of a form at the place
abbrev pub noted_by : List Entry → List Datom → ℕ → Act → List Noted
noted_by h schema place act =
    flat_map (added_by h schema) (asked_by Added place act)
    ++ map (as_way Retracted) (asked_by Retracted place act)

-- forms, of which the first is at the place
abbrev pub noted_from : List Entry → List Datom → ℕ → List (List Act) → List Noted
noted_from h schema place [] = []
noted_from h schema place (acts ∷ forms) =
    flat_map (noted_by h schema place) acts ++ noted_from h schema (place + 1) forms

-- ---- by the triple

abbrev pub noted_cmp : Noted → Noted → Ordering
noted_cmp x y =
    ordering_then (ordering_then (nat_cmp x.asking.e y.asking.e) (nat_cmp x.asking.a y.asking.a))
    (value_cmp x.asking.v y.asking.v)

abbrev pub asks : ℕ → ℕ → Value → Asking → Bool
asks e a v asking = nat_eq asking.e e && nat_eq asking.a a && value_eq asking.v v

-- the asking is of the triple
abbrev pub asks_same : Triple → Noted → Bool
asks_same triple noted = is_triple noted.asking.e noted.asking.a noted.asking.v triple

-- ---- triples

-- the least place of the triple's askings, after one that is known
abbrev pub placed : ℕ → ℕ → Value → Option ℕ → List Asking → Option ℕ
placed e a v found askings =
    fold (λ found asking. if asks e a v asking then least asking.place found else found) found
    askings

-- of the two ways that are the same
abbrev pub placed_as : AskedAs → AskedAs → ℕ → Option ℕ → Option ℕ
placed_as way other place found = if is_way way other then least place found else found

-- the form at the place asks the triple too
abbrev pub asked_too : AskedAs → ℕ → Triple → Triple
asked_too way place triple =
    record {
      e = triple.e;
      a = triple.a;
      v = triple.v;
      added = placed_as Added way place triple.added;
      retracted = placed_as Retracted way place triple.retracted;
      swept = placed_as Swept way place triple.swept;
      replaced = placed_as Replaced way place triple.replaced;
      holds = triple.holds;
    }

abbrev pub with_noted : Triple → Noted → Triple
with_noted triple noted = asked_too noted.way noted.asking.place triple

-- the triple with one asking
abbrev pub triple_from : List Entry → Noted → Triple
triple_from h noted =
    with_noted (record {
      e = noted.asking.e;
      a = noted.asking.a;
      v = noted.asking.v;
      added = None;
      retracted = None;
      swept = None;
      replaced = None;
      holds = asking_holds h noted.asking;
    }) noted

-- what the triple says of itself is so
pub record IsJoined (h : List Entry) (noted : List Noted) (triple : Triple) : Type 0 where
  pub added : triple.added ≡ placed triple.e triple.a triple.v None (askings_as Added noted)
  pub retracted : triple.retracted
      ≡ placed triple.e triple.a triple.v None (askings_as Retracted noted)
  pub swept : triple.swept ≡ placed triple.e triple.a triple.v None (askings_as Swept noted)
  pub replaced : triple.replaced
      ≡ placed triple.e triple.a triple.v None (askings_as Replaced noted)
  pub holding : triple.holds ≡ holds h triple.e triple.a triple.v

-- all that is asked, triple by triple in their order
pub record AreJoined (h : List Entry) (noted : List Noted) (triples : List Triple) : Type 0 where
  pub rising : IsTrue (rise triples)
  pub exact : All (IsJoined h noted) triples
  pub whole : (n : Noted) → Contains noted n
      → IsTrue (list_any (is_triple n.asking.e n.asking.a n.asking.v) triples)
