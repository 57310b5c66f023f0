-- What a read answers, and what it changes of its session.
-- This project's own choice.
use Rattle.std.specs.Prelude.{ℕ, Bool, false, List, [], Option, is_some, map, Result, Ok, Err}
use Rattle.edn_model.specs.Form.{Form}
use Rattle.fb_values.specs.declared.facts.Datom.{Datom}
use Rattle.fb_values.specs.declared.facts.Entry.{Entry}
use Rattle.fb_model.specs.History.{basis}
use Rattle.view_model.specs.Window.{Window}
use Rattle.read_refusals.specs.declared.reasons.Reason.TheVariants.{NoFilter}
use Rattle.read_refusals.specs.declared.reasons.Refusal.{Refusal}
use Rattle.read_model.specs.Given.{refusal}
use Rattle.talk_model.specs.Replies.{IsLineOf}
use Rattle.tx_model.specs.Step.{Guard, no_guard}
use Rattle.talk_model.specs.Looks.{refused, Shows}
use Rattle.talk_model.specs.TupleRanges.{TupleRange, HasRows}
use Rattle.talk_model.specs.Session.{Standing, Sight, SelectedBy}
use Rattle.fb_preds.specs.Naming.{selected_by}
use Rattle.fb_names.specs.declared.stops.NameStop.{NameStop}
use Rattle.fb_names.specs.declared.stops.NameStop.TheVariants.{Refused, Memory}

-- the line is that of such a reply
abbrev pub IsLineFor : (Form → Type 0) → List ℕ → Type 0
IsLineFor IsAnswer line = (reply : Form) × IsAnswer reply × IsLineOf reply line

-- what a read has of a view whose filters are at these places of a table
abbrev pub sight_in : (List ℕ → Option ℕ) → (ℕ → List ℕ) → (ℕ → Datom → Type 0) → Guard
    → List Entry → Window → List ℕ → Sight
sight_in place_of name_at SelectsAt guard h w places =
    record {
      history = h;
      window = w;
      filters = map name_at places;
      Selects = SelectedBy (selected_by place_of SelectsAt) (map name_at places);
      is_filter = λ name. is_some (place_of name);
      guard = guard;
    }

-- what a range of tuples has of a view, whatever its filters are called
abbrev pub sight_through : List Entry → Window → (Datom → Type 0) → Sight
sight_through h w Selects =
    record {
      history = h;
      window = w;
      filters = [];
      Selects = Selects;
      is_filter = λ name. false;
      guard = no_guard;
    }

-- the reply to a range of tuples that was read, or its refusal
abbrev pub ShowsRange : List Entry → Window → (Datom → Type 0) → Result TupleRange Refusal → Form
    → Type 0
ShowsRange h w Selects range reply = Shows (basis h) (HasRows (sight_through h w Selects)) range reply

-- the line is that of the refusal; running out of memory has no line
abbrev pub IsRefused : ℕ → NameStop → List ℕ → Type 0
IsRefused basis (Refused r) line = IsLineOf (refused basis r) line
IsRefused basis Memory line = ⊥

-- no filter has the name after the command's word
abbrev pub no_filter : Refusal
no_filter = refusal NoFilter 1

-- a point that could be read changes the window
abbrev pub narrowed : (ℕ → Window → Window) → Result ℕ Refusal → Window → Window
narrowed change (Ok end) w = change end w
narrowed change (Err r) w = w

-- a session at this place, notified of a stop or not,
-- whose reads see the window under the filters of these names
abbrev pub standing_at : ℕ → Bool → Window → List (List ℕ) → Standing
standing_at place notified w names =
    record { place = place; window = w; filters = names; was_notified = notified }
