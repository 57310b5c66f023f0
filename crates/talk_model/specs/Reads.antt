-- What a command that records nothing answers, of what its session has seen, and where the session
-- follows it.
-- Datomic, Database Filters.
use Rattle.std.specs.Prelude.{◌≡◌, ℕ, [], if◌then◌else◌, Option, Some, None, Result, Ok, Err}
use Rattle.edn_model.specs.Form.{Form}
use Rattle.fb_model.specs.History.{basis}
use Rattle.view_model.specs.Window as window
use Rattle.view_model.specs.Window.{Window, whole, with_history}
use Rattle.read_refusals.specs.declared.reasons.Reason.TheVariants.{NoFilter}
use Rattle.read_refusals.specs.declared.reasons.Refusal.{Refusal}
use Rattle.read_model.specs.Points.{point_in}
use Rattle.read_model.specs.Given.{refusal}
use Rattle.read_model.specs.Components.{no_command}
use Rattle.talk_model.specs.Commands.{Turn, as_of, since, history, filter, unfilter, Read, look}
use Rattle.talk_model.specs.Commands.{tried, tuples, turn, request_index}
use Rattle.talk_model.specs.Replies.{done_reply}
use Rattle.talk_model.specs.Session.{Sight, Standing, with_name}
use Rattle.talk_model.specs.Looks.{refused, IsLook}
use Rattle.talk_model.specs.Tried.{IsTried}
use Rattle.talk_model.specs.TupleRanges.{HasTuples}

-- ---- reads

-- where a point could be read
abbrev pub done_at : ℕ → Result ℕ Refusal → Form
done_at basis (Ok end) = done_reply basis
done_at basis (Err r) = refused basis r

abbrev pub turn_reply : Sight → Turn → Form
turn_reply s (as_of point) = done_at (basis s.history) (point_in s.history point)
turn_reply s (since point) = done_at (basis s.history) (point_in s.history point)
turn_reply s history = done_reply (basis s.history)
turn_reply s (filter name) =
    if s.is_filter name then done_reply (basis s.history)
    else refused (basis s.history) (refusal NoFilter 1)
turn_reply s unfilter = done_reply (basis s.history)

-- the reply to a read, or to what is not a command
abbrev pub IsReply : Sight → Option Read → Form → Type 0
IsReply s None reply = reply ≡ refused (basis s.history) no_command
IsReply s (Some (look l)) reply = IsLook s l reply
IsReply s (Some (tried datas l)) reply = IsTried s datas l reply
IsReply s (Some (tuples names start end)) reply = HasTuples s names start end reply
IsReply s (Some (turn t)) reply = reply ≡ turn_reply s t
IsReply s (Some request_index) reply = reply ≡ done_reply (basis s.history)

-- ---- what changes

-- a point that could be read changes the window
abbrev pub windowed : Standing → (ℕ → Window → Window) → Result ℕ Refusal → Standing
windowed standing change (Ok end) = record standing { window = change end standing.window }
windowed standing change (Err r) = standing

abbrev pub turned : Sight → Standing → Turn → Standing
turned s standing (as_of point) = windowed standing window.as_of (point_in s.history point)
turned s standing (since point) = windowed standing window.since (point_in s.history point)
turned s standing history = record standing { window = with_history standing.window }
turned s standing (filter name) =
    if s.is_filter name then record standing { filters = with_name standing.filters name }
    else standing
turned s standing unfilter = record standing { window = whole; filters = [] }

-- what the session is after a read, or after what is not a command
abbrev pub behind : Sight → Standing → Option Read → Standing
behind s standing (Some (turn t)) = turned s standing t
behind s standing asked = standing
