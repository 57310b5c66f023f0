-- What a range of the tuples of a composite answers, of what its session has seen.
-- Datomic, Schema (Composite tuples) and Indexes. That tuples are asked for by the names of their
-- attributes is this project's own choice.
use Rattle.std.specs.Prelude.{◌≡◌, ℕ, Bool, List, if◌then◌else◌, Option, Some, None, Result, Ok}
use Rattle.std.specs.Prelude.{Err}
use Rattle.edn_model.specs.Form.{Form}
use Rattle.fb_values.specs.declared.facts.Datom.{Datom}
use Rattle.fb_model.specs.History.{basis}
use Rattle.fb_model.specs.Facts.{facts}
use Rattle.tuple_model.specs.Tuples.{Tuple, Row}
use Rattle.tuple_model.specs.Given.{kinds_of, composite_in, bound_in}
use Rattle.tuple_model.specs.Seen.{AreTuplesIn}
use Rattle.read_refusals.specs.declared.reasons.Reason.TheVariants.{BadTuple, BadComponent}
use Rattle.read_refusals.specs.declared.reasons.Reason.TheVariants.{History}
use Rattle.read_refusals.specs.declared.reasons.Refusal.{Refusal}
use Rattle.read_model.specs.Given.{refusal}
use Rattle.talk_model.specs.Replies.{tuples_reply}
use Rattle.talk_model.specs.Session.{Sight}
use Rattle.talk_model.specs.Looks.{Shows}

-- a composite, and the bounds of a range of its tuples
pub record TupleRange : Type 0 where
  pub attrs : List ℕ
  pub start : Option Tuple
  pub end : Option Tuple

-- ---- what the three forms after the command's word give, at places 1 to 3, where the view has no
-- history

abbrev pub between : Bool → List ℕ → Option (Option Tuple) → Option (Option Tuple)
    → Result TupleRange Refusal
between history attrs None end = Err (refusal BadComponent 2)
between history attrs (Some start) None = Err (refusal BadComponent 3)
between history attrs (Some start) (Some end) =
    if history then Err (refusal History 0)
    else Ok (record { attrs = attrs; start = start; end = end })

abbrev pub of_composite : List Datom → Bool → Option (List ℕ) → Form → Form
    → Result TupleRange Refusal
of_composite facts history None start end = Err (refusal BadTuple 1)
of_composite facts history (Some attrs) start end =
    between history attrs (bound_in (kinds_of facts attrs) start)
    (bound_in (kinds_of facts attrs) end)

abbrev pub tuple_range : List Datom → Bool → Form → Form → Form → Result TupleRange Refusal
tuple_range facts history names start end =
    of_composite facts history (composite_in facts names) start end

-- ---- the reply

abbrev pub HasRows : Sight → TupleRange → Form → Type 0
HasRows s range reply =
    (rows : List Row)
    × AreTuplesIn s.history s.window s.Selects range.attrs range.start range.end rows
    × (reply ≡ tuples_reply (basis s.history) rows)

abbrev pub HasTuples : Sight → Form → Form → Form → Form → Type 0
HasTuples s names start end reply =
    Shows (basis s.history) (HasRows s)
    (tuple_range (facts s.history) s.window.history names start end) reply
