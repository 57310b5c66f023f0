-- What the examples begin with, and how they are read.
-- This project's own choice.
use Rattle.std.specs.Prelude.{ℕ, List, [], ◌∷◌, codes}
use Rattle.edn_model.specs.Form.{Form}
use Rattle.fb_model.specs.FirstEntry.{first_entry}
use Rattle.tx_model.specs.Step.{no_guard}
use Rattle.tx_model.specs.Samples.{string, vector, add, doc, clock}
use Rattle.event_model.specs.World.{Session, World, opened}
use Rattle.event_model.specs.Event.{Event, accept, fail, stopped, crash}
use Rattle.event_model.specs.Runs.{Runs}

-- a new database
abbrev pub start : World
start = opened (first_entry ∷ []) 0 []

-- a transaction that gives a new entity a text, and one of an attribute that is none
abbrev pub text : List ℕ → Form
text bytes = vector (add (string (codes "x")) doc (string bytes) ∷ [])

abbrev pub no_attribute : Form
no_attribute = vector (add (string (codes "x")) (codes "no/such") (string (codes "x")) ∷ [])

-- the text `a`, and the text `b`
abbrev pub text_a : Form
text_a = text (codes "a")

abbrev pub text_b : Form
text_b = text (codes "b")

-- three sessions
abbrev pub first : ℕ
first = 0

abbrev pub second : ℕ
second = 1

abbrev pub third : ℕ
third = 2

-- a session has the text recorded
abbrev pub a_from : ℕ → Event
a_from session = accept session text_a clock

abbrev pub b_from : ℕ → Event
b_from session = accept session text_b clock

-- the append of a session's text fails
abbrev pub b_fails_from : ℕ → Event
b_fails_from session = fail session text_b clock

-- two sessions have a transaction each, and of two the one fails
abbrev pub two_accepted : List Event
two_accepted = a_from first ∷ b_from second ∷ []

abbrev pub failed_and_crashed : List Event
failed_and_crashed = a_from first ∷ b_fails_from second ∷ stopped first ∷ crash ∷ []

-- the basis of its mail and of its snapshot, and the t of its own transactions
abbrev pub session : ℕ → ℕ → List ℕ → Session
session mailed snap commits = record { mailed = mailed; snap = snap; commits = commits }

-- the events may happen in this order, and make a world of which this holds
abbrev pub MayCome : World → List Event → (World → Type 0) → Type 0
MayCome before events Holds = (after : World) × Runs no_guard before events after × Holds after

-- they cannot
abbrev pub NeverHappen : World → List Event → Type 0
NeverHappen before events = (after : World) → Runs no_guard before events after → ⊥
