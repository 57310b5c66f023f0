-- What a session keeps while it answers forms: what its reads see, and what it answered so far.
-- This project's own choice.
use Rattle.std.specs.Prelude.{◌≡◌, ◌≢◌, ℕ, ℤ, ◌<◌, ◌≤◌, ◌⊎◌, Bool, true, false, List, [], ◌∷◌}
use Rattle.std.specs.Prelude.{◌++◌, Option, Some, None, option_to_list, length, codes, Result}
use Rattle.std.specs.Prelude.{MatchResult}
use Rattle.std.specs.List.{concat, last_or}
use Rattle.std.specs.Io.KnownBytes.{prepend_known, append_known}
use Rattle.edn_model.specs.Form.{Form}
use Rattle.edn_model.specs.Grammar.{FormAt, OnlyGap}
use Rattle.edn_model.specs.Faults.{FaultAt}
use Rattle.edn_core.specs.Answers.{fault_of, MatchFault}
use Rattle.edn_core.specs.declared.fault.EdnFault.TheVariants as edn
use Rattle.fb_values.specs.declared.facts.Datom.{Datom}
use Rattle.fb_model.specs.History.{basis}
use Rattle.fb_model.specs.Lawful.{IsLawful}
use Rattle.tx_refusals.specs.Reasons.{keyword_of}
use Rattle.tx_model.specs.Step.{Guard}
use Rattle.talk_model.specs.Script.{most_commands, FormsBetween}
use Rattle.talk_model.specs.Replies as reply
use Rattle.talk_model.specs.Replies.{IsLineOf}
use Rattle.talk_model.specs.Commands.{Read}
use Rattle.talk_model.specs.Reads.{IsReply, behind}
use Rattle.talk_model.specs.Session.{Setting, Standing, Sight, setting, opened_at, SelectedBy}
use Rattle.talk_model.specs.Talk.{IsAnswered, Exchange, forms_of, places_of, lines_of, commits_of}
use Rattle.talk_model.specs.Talk.{Talk}
use Rattle.talk_model.specs.Prefixes.{SeesAll}
use Rattle.fb_ports.specs.Faults.{Rose}
use Rattle.fb_db.specs.Seen.{window_of}
use Rattle.fb_db.specs.declared.db.Db.{Db}
use Rattle.fb_reads.specs.Answers.{IsLineFor, standing_at}
use Rattle.fb_desk.specs.Desks.{Tally, State, WentOn, IsReceipt, IsFault, loaded}
use Rattle.fb_desk.specs.declared.answers.Receipt.{Receipt}
use Rattle.fb_desk.specs.declared.answers.TxFault.{TxFault}
use Rattle.fb_desk.specs.declared.answers.TxFault.TheVariants as fault
use Rattle.fb_session.specs.Terms.{Terms}
use Rattle.fb_session.specs.declared.outcome.Served.{Served}
use Rattle.fb_session.specs.declared.outcome.SessionEnd.{SessionEnd}
use Rattle.fb_session.specs.declared.outcome.SessionEnd.TheVariants as ended
use Rattle.fb_session.specs.declared.session.Session.{Session}
use Rattle.fb_session.specs.declared.answering.AnswerError.{AnswerError}
use Rattle.fb_session.specs.declared.answering.AnswerError.TheVariants.{WriteFault, Memory}
use Rattle.fb_session.specs.Written.{TakesPart}
use Rattle.fb_session.specs.Replies.{Answers}
use Rattle.fb_session.specs.Asks.{is_for_desk, Counted, Asks}
use Rattle.fb_session.specs.declared.waiting.Waiting.{Waiting}
use Rattle.fb_session.specs.WaitingLines.{Waits, CutsOff, LineWaits, LineIsOut}

-- ---- what it has

-- what its reads see
abbrev pub view_of : {S : Type 0} → Session S → Db S
view_of session = session.view

abbrev pub filter_of : {S : Type 0} → Session S → S
filter_of session = session.view.filter

-- where it answered
abbrev pub places_in : {S : Type 0} → Session S → List ℕ
places_in session = session.places.items

-- what it committed
abbrev pub commits_in : {S : Type 0} → Session S → List ℕ
commits_in session = session.commits.items

abbrev pub waiting_in : {S : Type 0} → Session S → Waiting
waiting_in session = session.waiting

abbrev pub waiting_bytes : {S : Type 0} → Session S → List ℕ
waiting_bytes session = session.waiting.bytes.items

-- ---- and what stays as it was

abbrev pub KeepsPlaces : {S : Type 0} → Session S → Session S → Type 0
KeepsPlaces old new = new.places ≡ old.places

-- all but its places and what waits
abbrev pub DiffersInWaiting : {S : Type 0} → Session S → Session S → Type 0
DiffersInWaiting old new = new ≡ record old { places = new.places; waiting = new.waiting }

-- it has let go of its places and its commits, and of nothing else
pub record Forgets {S : Type 0} (old new : Session S) : Type 0 where
  pub places : new.places.items ≡ []
  pub commits : new.commits.items ≡ []
  pub rest : new ≡ record old { places = new.places; commits = new.commits }

-- ---- what it is answered by

-- with what its desk was answered by now
abbrev pub over : Terms → State → Setting
over f desk = setting f.may f.Selects f.guard f.is_filter desk.entries desk.stop desk.teller

-- ---- between two commands

-- The session's reads see what the desk was answered last, and this is its standing.
-- The view's filter is made of filters with these names.
pub record HasStanding {S : Type 0} (view : Db S) (names : S → List (List ℕ)) (desk : State)
    (standing : Standing) : Type 0 where
  pub lawful : IsLawful desk.entries
  pub sees : view.snapshot.entries ≡ desk.entries
  pub place : standing.place ≡ basis desk.entries
  pub window : standing.window ≡ window_of view
  pub filters : standing.filters ≡ names view.filter
  pub was_notified : standing.was_notified ≡ true → desk.stop ≢ None

-- the session has seen what there was as the desk was opened, and nothing was done
pub record IsOpened {S : Type 0} (session : Session S) (names : S → List (List ℕ)) (desk : State)
    : Type 0 where
  pub stands : HasStanding session.view names desk (opened_at (basis desk.entries))
  pub places : session.places.items ≡ []
  pub commits : session.commits.items ≡ []
  pub waits : Waits session.waiting []

-- this was committed through the desk, and the session keeps it
pub record KeepsCommit {S : Type 0} (old new : Session S) (was is : State) (commit : Option ℕ)
    : Type 0 where
  pub commits : new.commits.items ≡ old.commits.items ++ option_to_list commit
  pub desk : is.commits ≡ was.commits ++ option_to_list commit

-- ---- a transaction

-- the session's reads see what the desk was answered now, through the same window and filters
pub record Sees {S : Type 0} (old new : Session S) (desk : State) : Type 0 where
  pub snapshot : new.view.snapshot.entries ≡ desk.entries
  pub window : window_of new.view ≡ window_of old.view
  pub filter : new.view.filter ≡ old.view.filter

-- the transaction was accepted
pub record Received {S : Type 0} (may : ℤ → Type 0) (guard : Guard) (asked : Form)
    (old new : Session S) (was is : State) (receipt : Receipt) : Type 0 where
  pub is_receipt : IsReceipt may guard asked was is receipt
  pub sees : Sees old new is
  pub keeps : KeepsCommit old new was is (Some receipt.t)

-- the line that says why it was not
abbrev pub SaysFault : TxFault → ℕ → List ℕ → Type 0
SaysFault (fault.Refused refusal snapshot) place line =
    IsLineOf (reply.refusal_reply (keyword_of refusal.reason) refusal.at place) line
SaysFault (fault.LogFault at snapshot) place line =
    IsLineOf (reply.fault_reply (codes "log") at place) line
SaysFault (fault.Stopped at snapshot) place line =
    IsLineOf (reply.fault_reply (codes "log-stopped") at place) line
SaysFault fault.Memory place line = ⊥

pub record Denied {S : Type 0} (may : ℤ → Type 0) (guard : Guard) (asked : Form)
    (old new : Session S) (was is : State) (why : TxFault) : Type 0 where
  pub is_fault : IsFault may guard asked was is why
  pub sees : Sees old new is
  pub keeps : KeepsCommit old new was is None
  pub says : SaysFault why (basis is.entries) new.line.bytes.items

abbrev pub Transacts : {S : Type 0} → (ℤ → Type 0) → Guard → Form → Session S → Session S → State
    → State → Type 0
Transacts may guard asked old new was is =
    ((receipt : Receipt)
    × Received may guard asked old new was is receipt
    × IsLineOf (reply.receipt receipt.t receipt.tempids.items) new.line.bytes.items)
    ⊎ ((why : TxFault) × Denied may guard asked old new was is why)

-- where memory was refused, maybe after the desk had read all that there was
abbrev pub LoadsOnceAtMost : State → State → Type 0
LoadsOnceAtMost was is = (is.tally ≡ was.tally) ⊎ (is.tally ≡ loaded was.tally)

-- ---- other commands

-- what the desk was answered now is seen and shown
pub record Shows {S : Type 0} (old new : Session S) (is : State) : Type 0 where
  pub sees : Sees old new is
  pub says : IsLineOf (reply.basis_reply (basis is.entries)) new.line.bytes.items

-- what a read has of the view
abbrev pub sight : {S : Type 0} → Db S → (S → List (List ℕ)) → (List ℕ → Bool)
    → (List ℕ → Datom → Type 0) → Guard → Sight
sight view names is_filter Selects guard =
    record {
      history = view.snapshot.entries;
      window = window_of view;
      filters = names view.filter;
      Selects = SelectedBy Selects (names view.filter);
      is_filter = is_filter;
      guard = guard;
    }

-- the read is answered of what was seen before, and the view changes as it says
pub record AnswersRead {S : Type 0} (old new : Db S) (names : S → List (List ℕ))
    (is_filter : List ℕ → Bool) (Selects : List ℕ → Datom → Type 0) (guard : Guard)
    (asked : Option Read) (line : List ℕ) : Type 0 where
  pub says : IsLineFor (IsReply (sight old names is_filter Selects guard) asked) line
  pub stands : (place : ℕ) (notified : Bool)
      → standing_at place notified (window_of new) (names new.filter)
      ≡ behind (sight old names is_filter Selects guard)
      (standing_at place notified (window_of old) (names old.filter)) asked
  pub snapshot : new.snapshot ≡ old.snapshot

-- ---- a form

-- the form is answered with this line, and this is the session after it
pub record Answered {S : Type 0} (f : Terms) (form : Form) (old new : Session S)
    (names : S → List (List ℕ)) (was is : State) (before : Standing) (line : List ℕ) : Type 0 where
  pub after : Standing
  pub commit : Option ℕ
  pub answered : IsAnswered (over f is) before form after line commit
  pub stands : HasStanding new.view names is after
  pub keeps : KeepsCommit old new was is commit
  pub counted : Counted (form ∷ []) (length (option_to_list commit)) was.tally is.tally

-- memory was refused: nothing was committed, and the desk may have been asked
pub record Unanswered {S : Type 0} (form : Form) (old new : Session S)
    (was is : State) : Type 0 where
  pub keeps : KeepsCommit old new was is None
  pub counted : (is.tally ≡ was.tally) ⊎ Counted (form ∷ []) 0 was.tally is.tally

-- the line of a form for which the desk is not asked may wait
abbrev pub GoesOut : Form → List (List ℕ) → List ℕ → Waiting → Option (List ℕ) → Option (List ℕ)
    → Type 0
GoesOut form lines line waiting had has =
    ((is_for_desk form ≡ false) × LineWaits lines line waiting had has)
    ⊎ LineIsOut lines line waiting had has

-- the form was answered, and its line waits, or was written whole
pub record Replied {S : Type 0} (f : Terms) (form : Form) (old new : Session S)
    (names : S → List (List ℕ)) (was is : State) (before : Standing) (lines : List (List ℕ))
    (had has : Option (List ℕ)) : Type 0 where
  pub line : List ℕ
  pub answered : Answered f form old new names was is before line
  pub places : new.places.items ≡ old.places.items ++ answered.after.place ∷ []
  pub written : GoesOut form lines line new.waiting had has

-- the form was answered, and the sink failed before it had taken the whole line
pub record RepliedPart {S : Type 0} (f : Terms) (form : Form) (old new : Session S)
    (names : S → List (List ℕ)) (was is : State) (before : Standing) (lines : List (List ℕ))
    (had has : Option (List ℕ)) : Type 0 where
  pub line : List ℕ
  pub answered : Answered f form old new names was is before line
  pub places : new.places.items ≡ old.places.items
  pub written : TakesPart line (append_known had (concat lines)) has

-- the sink failed in the lines that waited: the desk was not asked for what is behind them
pub record RepliedBefore {S : Type 0} (old new : Session S) (was is : State)
    (lines : List (List ℕ)) (had has : Option (List ℕ)) : Type 0 where
  pub keeps : KeepsCommit old new was is None
  pub counted : Counted [] 0 was.tally is.tally
  pub cut : CutsOff lines old.places.items new.places.items had has

-- memory was refused, and no line was written but those that waited
pub record RepliedNothing {S : Type 0} (form : Form) (old new : Session S) (was is : State)
    (lines : List (List ℕ)) (had has : Option (List ℕ)) : Type 0 where
  pub unanswered : Unanswered form old new was is
  pub places : new.places.items ≡ old.places.items
  pub written : has ≡ append_known had (concat lines)

abbrev pub StopsAt : {S : Type 0} → Terms → Form → Session S → Session S → (S → List (List ℕ))
    → State → State → Standing → List (List ℕ) → Option (List ℕ) → Option (List ℕ) → AnswerError
    → Type 0
StopsAt f form old new names was is before lines had has WriteFault =
    RepliedBefore old new was is lines had has
    ⊎ RepliedPart f form old new names was is before lines had has
StopsAt f form old new names was is before lines had has Memory =
    RepliedNothing form old new was is lines had has

-- what became of the form behind the lines that waited, at the terms of the session's filter
abbrev pub Became : {S : Type 0} → (S → Terms) → Form → Session S → Session S
    → (S → List (List ℕ)) → State → State → Option (List ℕ) → Option (List ℕ)
    → Result (Unit {0}) AnswerError → Type 0
Became terms form old new names was is had has result =
    (before : Standing) → HasStanding old.view names was before
    → (lines : List (List ℕ)) → Waits old.waiting lines
    → MatchResult result
    (λ _. Replied (terms old.view.filter) form old new names was is before lines had has)
    (λ stop. StopsAt (terms old.view.filter) form old new names was is before lines had has stop)

abbrev pub StopCount : AnswerError → ℕ → ℕ → Type 0
StopCount WriteFault old new = Rose old new
StopCount Memory old new = new ≡ old

-- how a session ends that stops so
abbrev pub end_of : AnswerError → SessionEnd
end_of WriteFault = ended.WriteFault
end_of Memory = ended.Memory

-- ---- an end

-- the lines that waited went out, and the session ends as it was to
pub record Finished (lines : List (List ℕ)) (places kept : List ℕ) (had has : Option (List ℕ))
    (asked how : SessionEnd) : Type 0 where
  pub ends : how ≡ asked
  pub keeps : kept ≡ places
  pub written : has ≡ append_known had (concat lines)

-- or the sink failed in them
abbrev pub Finishes : List (List ℕ) → List ℕ → List ℕ → Option (List ℕ) → Option (List ℕ)
    → SessionEnd → SessionEnd → Type 0
Finishes lines places kept had has asked how =
    Finished lines places kept had has asked how
    ⊎ ((how ≡ ended.WriteFault) × CutsOff lines places kept had has)

abbrev pub FinishCount : SessionEnd → SessionEnd → ℕ → ℕ → Type 0
FinishCount asked how old new =
    ((how ≡ asked) × (new ≡ old)) ⊎ ((how ≡ ended.WriteFault) × Rose old new)

-- ---- a script

-- these asked the desk for nothing, and committed nothing
pub record AreQuiet (exchanges : List Exchange) : Type 0 where
  pub asks : (tally : Tally) → Counted (forms_of exchanges) 0 tally tally
  pub commits : commits_of exchanges ≡ []

-- The bytes up to this place are forms, and this is the session's talk over them so far:
-- the lines of its first part are what the sink gained, and those of the quiet rest wait.
pub record TalkSoFar {S : Type 0} (f : Terms) (bytes : List ℕ) (at : ℕ) (session : Session S)
    (names : S → List (List ℕ)) (start now : State) (had has : Option (List ℕ)) : Type 0 where
  pub exchanges : List Exchange
  pub standing : Standing
  pub read : FormsBetween bytes 0 (forms_of exchanges) at
  pub few_forms : length (forms_of exchanges) ≤ most_commands
  pub talk : Talk (over f now) (opened_at (basis start.entries)) exchanges standing
  pub places : session.places.items ≡ places_of exchanges
  pub kept : session.commits.items ≡ commits_of exchanges
  pub sent : List Exchange
  pub held : List Exchange
  pub parts : exchanges ≡ sent ++ held
  pub quiet : AreQuiet held
  pub waits : Waits session.waiting (lines_of held)
  pub written : has ≡ append_known had (concat (lines_of sent))
  pub stands : HasStanding session.view names now standing
  pub went_on : WentOn start now
  pub from : basis start.entries ≤ basis now.entries
  pub commits : now.commits ≡ start.commits ++ session.commits.items
  pub counted : Counted (forms_of exchanges) (length session.commits.items) start.tally now.tally
  pub within : at ≤ length bytes

-- a command follows this place, and the script may have one more after so many
pub record IsCommand (bytes : List ℕ) (at count : ℕ) (f : Form) (next : ℕ) : Type 0 where
  pub stands : FormAt bytes at f next
  pub ahead : at < next
  pub within : next ≤ length bytes
  pub room : count < most_commands

-- how a session ends where no command follows so many
abbrev pub NoCommand : List ℕ → ℕ → ℕ → SessionEnd → Type 0
NoCommand bytes at count ended.Done = OnlyGap bytes at
NoCommand bytes at count (ended.Script why) =
    (why ≢ edn.Memory) × MatchFault (fault_of why) (FaultAt bytes at)
NoCommand bytes at count ended.TooLong = ⊥
NoCommand bytes at count ended.TooMany =
    (most_commands ≤ count) × (f : Form) × (next : ℕ) × FormAt bytes at f next
NoCommand bytes at count ended.ReadFault = ⊥
NoCommand bytes at count ended.WriteFault = ⊥
NoCommand bytes at count ended.Memory = Unit {0}

-- the ends of a session whose script was read
abbrev pub IsPastReading : SessionEnd → Type 0
IsPastReading ended.Done = Unit {0}
IsPastReading (ended.Script why) = Unit {0}
IsPastReading ended.TooMany = Unit {0}
IsPastReading ended.TooLong = ⊥
IsPastReading ended.ReadFault = ⊥
IsPastReading ended.WriteFault = Unit {0}
IsPastReading ended.Memory = Unit {0}

-- what is left of a session that ends so
abbrev pub served_by : {S : Type 0} → Session S → SessionEnd → Served
served_by session how =
    record { end = how; places = session.places.items; commits = session.commits.items }

-- the session's answers to a script, whatever it wrote
pub record Talks (f : Terms) (script : List ℕ) (start now : State) (had has : Option (List ℕ))
    (served : Served) : Type 0 where
  pub written : List ℕ
  pub gained : has ≡ append_known had written
  pub answers : Answers (over f now) (basis start.entries) script
      (record { written = written; places = served.places; commits = served.commits }) served.end
  pub prefixes : SeesAll (basis now.entries) (basis start.entries) served.places served.commits
  pub commits_are : now.commits ≡ start.commits ++ served.commits
  pub went_on : WentOn start now
  -- whatever source it was taken of
  pub asks : (held left : Option (List ℕ)) → held ≡ prepend_known script left
      → Asks held left served start.tally now.tally
  pub seen : served.end ≡ ended.Done
      → last_or (Some (basis start.entries)) served.places ≡ Some (basis now.entries)
  pub past_reading : IsPastReading served.end
