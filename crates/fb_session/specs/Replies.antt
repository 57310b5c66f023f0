-- What a session promises of one script: its lines answer the script's forms,
-- over the history that its desk has at the end, and each end has its cause.
-- This project's own choice.
use Rattle.std.specs.Prelude.{◌≡◌, ℕ, ◌<◌, ◌↔◌, Bool, true, false, List, [], ◌∷◌, ◌++◌, Option}
use Rattle.std.specs.Prelude.{Some, None, IsTrue, length, nat_lt, ◌||◌}
use Rattle.std.specs.List.{concat}
use Rattle.std.specs.Io.KnownBytes.{prepend_known, append_known, IsAtEnd}
use Rattle.edn_model.specs.Faults.{Fault}
use Rattle.edn_core.specs.Answers.{fault_of}
use Rattle.fb_ports.specs.Faults.{Rose}
use Rattle.talk_model.specs.Script.{Ending, whole, fault, too_many, Script, Begins}
use Rattle.talk_model.specs.Session.{Setting, Standing, opened_at}
use Rattle.talk_model.specs.Talk.{Exchange, forms_of, places_of, lines_of, commits_of, Talk}
use Rattle.fb_session.specs.declared.outcome.SessionEnd.{SessionEnd}
use Rattle.fb_session.specs.declared.outcome.SessionEnd.TheVariants as ended
use Rattle.fb_session.specs.Taken.{longest_script}

-- ---- what a session did

-- the bytes that it wrote, where each of its lines was answered, and what it committed
pub record Trace : Type 0 where
  pub written : List ℕ
  pub places : List ℕ
  pub commits : List ℕ

-- where each line was written whole, and no other form was answered
abbrev pub trace_of : List Exchange → Trace
trace_of exchanges =
    record {
      written = concat (lines_of exchanges);
      places = places_of exchanges;
      commits = commits_of exchanges;
    }

-- every form of the script was answered, and its lines are all that was written
pub record AnswersAll (s : Setting) (opening : ℕ) (script : List ℕ) (ending : Ending)
    (trace : Trace) : Type 0 where
  pub exchanges : List Exchange
  pub after : Standing
  pub read : Script script (forms_of exchanges) ending
  pub talk : Talk s (opened_at opening) exchanges after
  pub leaves : trace ≡ trace_of exchanges

-- the script's first forms were answered, and their lines are all that was written
pub record AnswersSome (s : Setting) (opening : ℕ) (script : List ℕ) (trace : Trace) : Type 0 where
  pub exchanges : List Exchange
  pub after : Standing
  pub read : Begins script (forms_of exchanges)
  pub talk : Talk s (opened_at opening) exchanges after
  pub leaves : trace ≡ trace_of exchanges

-- After the lines that were written whole, one more form was answered, and may have committed:
-- its t is the last commit then.
-- Its line broke off, short of its whole.
pub record BreaksOff (s : Setting) (opening : ℕ) (script : List ℕ) (trace : Trace) : Type 0 where
  pub exchanges : List Exchange
  pub last : Exchange
  pub after : Standing
  pub read : Begins script (forms_of (exchanges ++ last ∷ []))
  pub talk : Talk s (opened_at opening) (exchanges ++ last ∷ []) after
  pub out : List ℕ
  pub missing : List ℕ
  pub parts : last.line ≡ out ++ missing
  pub short : 0 < length missing
  pub written : trace.written ≡ concat (lines_of exchanges) ++ out
  pub places : trace.places ≡ places_of exchanges
  pub commits : trace.commits ≡ commits_of (exchanges ++ last ∷ [])

-- no form was answered, and nothing was written
abbrev pub AnswersNone : Trace → Type 0
AnswersNone trace = trace ≡ trace_of []

-- the script's forms up to its fault were answered
abbrev pub AnswersUpTo : Setting → ℕ → List ℕ → Option (Fault × ℕ) → Trace → Type 0
AnswersUpTo s opening script (Some p) trace = AnswersAll s opening script (fault p.0 p.1) trace
AnswersUpTo s opening script None trace = ⊥

-- what the end of a session says of its answers to the script
abbrev pub Answers : Setting → ℕ → List ℕ → Trace → SessionEnd → Type 0
Answers s opening script trace ended.Done = AnswersAll s opening script whole trace
Answers s opening script trace (ended.Script why) =
    AnswersUpTo s opening script (fault_of why) trace
Answers s opening script trace ended.TooMany = AnswersAll s opening script too_many trace
Answers s opening script trace ended.TooLong = AnswersNone trace
Answers s opening script trace ended.ReadFault = AnswersNone trace
Answers s opening script trace ended.WriteFault = BreaksOff s opening script trace
Answers s opening script trace ended.Memory = AnswersSome s opening script trace

-- the ends that rest on the whole script
abbrev pub rests_on_whole : SessionEnd → Bool
rests_on_whole ended.Done = true
rests_on_whole (ended.Script why) = true
rests_on_whole ended.TooMany = true
rests_on_whole ended.TooLong = false
rests_on_whole ended.ReadFault = false
rests_on_whole ended.WriteFault = true
rests_on_whole ended.Memory = false

-- ---- replies

-- What a session was handed and hands back, where what its source and its sink hold is known.
pub record SessionRun : Type 0 where
  -- what its source held, and what is left of that
  pub held : Option (List ℕ)
  pub left : Option (List ℕ)
  -- what its sink had, and what it has
  pub had : Option (List ℕ)
  pub has : Option (List ℕ)
  -- where each of its lines was answered, and what it committed
  pub places : List ℕ
  pub commits : List ℕ
  pub end : SessionEnd

-- It took these bytes of its source, wrote these into its sink, and answers the one with the other.
pub record Replies (s : Setting) (opening : ℕ) (run : SessionRun) : Type 0 where
  pub script : List ℕ
  pub written : List ℕ
  pub taken : run.held ≡ prepend_known script run.left
  pub gained : run.has ≡ append_known run.had written
  pub answers : Answers s opening script
      (record { written = written; places = run.places; commits = run.commits }) run.end
  -- more than the longest script was taken exactly where it is too long
  pub too_long : (run.end ≡ ended.TooLong) ↔ (longest_script < length script)
  -- where there is a line, a commit,
  -- or an end that rests on the whole script, all that the source held was taken
  pub all : IsTrue
      (rests_on_whole run.end || (nat_lt 0 (length run.places) || nat_lt 0 (length run.commits)))
      → IsAtEnd run.left

-- ---- causes

-- a fault of the source, and no other end, raised its count
abbrev pub SourceCount : SessionEnd → ℕ → ℕ → Type 0
SourceCount ended.Done old new = new ≡ old
SourceCount (ended.Script why) old new = new ≡ old
SourceCount ended.TooMany old new = new ≡ old
SourceCount ended.TooLong old new = new ≡ old
SourceCount ended.ReadFault old new = Rose old new
SourceCount ended.WriteFault old new = new ≡ old
SourceCount ended.Memory old new = new ≡ old

-- a fault of the sink, and no other end, raised its count
abbrev pub SinkCount : SessionEnd → ℕ → ℕ → Type 0
SinkCount ended.Done old new = new ≡ old
SinkCount (ended.Script why) old new = new ≡ old
SinkCount ended.TooMany old new = new ≡ old
SinkCount ended.TooLong old new = new ≡ old
SinkCount ended.ReadFault old new = new ≡ old
SinkCount ended.WriteFault old new = Rose old new
SinkCount ended.Memory old new = new ≡ old
