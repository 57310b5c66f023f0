-- A longer history keeps what a session did.
use Rattle.std.proofs.Common.{◌≡◌, ℕ, ◌+◌, ◌≤◌, Bool, List, [], ◌∷◌, ◌++◌, Option, Some, None, length, inl, inr, arith}
use Rattle.edn_model.specs.Faults.{Fault}
use Rattle.edn_core.specs.Answers.{fault_of}
use Rattle.fb_values.specs.declared.facts.Entry.{Entry}
use Rattle.fb_model.specs.History.{basis}
use Rattle.talk_model.specs.Script.{Ending, whole, fault, too_many}
use Rattle.talk_model.specs.Session.{Setting, Stays, grown, opened_at}
use Rattle.talk_model.specs.Prefixes.{SeesAll, Prefixes}
use Rattle.talk_model.proofs.Longer.{Talk-longer}
use Rattle.talk_model.proofs.Places.{Prefixes-SeesAll}
use Rattle.fb_session.specs.declared.outcome.SessionEnd.{SessionEnd}
use Rattle.fb_session.specs.declared.outcome.SessionEnd.TheVariants as ended
use Rattle.fb_session.specs.Replies.{Trace, AnswersAll, AnswersSome, BreaksOff, AnswersUpTo, Answers, SessionRun, Replies}

module _ (s : Setting) (more : List Entry) (stop : Option ℕ) (teller : Bool) (counted : length s.history ≡ basis s.history + 1)
    (grows : basis s.history ≤ basis (s.history ++ more)) (stays : Stays s stop teller) (opening : ℕ) (seen : opening ≤ basis s.history)
    (script : List ℕ) (trace : Trace) where
  abbrev t : Setting
  t = grown s more stop teller

  all_longer : (ending : Ending) → AnswersAll s opening script ending trace → AnswersAll t opening script ending trace
  all_longer ending a =
      record {
        exchanges = a.exchanges;
        after = a.after;
        read = a.read;
        talk = Talk-longer s more stop teller counted grows stays (opened_at opening) a.after a.exchanges seen a.talk;
        leaves = a.leaves;
      }

  some_longer : AnswersSome s opening script trace → AnswersSome t opening script trace
  some_longer a =
      record {
        exchanges = a.exchanges;
        after = a.after;
        read = a.read;
        talk = Talk-longer s more stop teller counted grows stays (opened_at opening) a.after a.exchanges seen a.talk;
        leaves = a.leaves;
      }

  breaks_off_longer : BreaksOff s opening script trace → BreaksOff t opening script trace
  breaks_off_longer b =
      record {
        exchanges = b.exchanges;
        last = b.last;
        after = b.after;
        read = b.read;
        talk = Talk-longer s more stop teller counted grows stays (opened_at opening) b.after (b.exchanges ++ b.last ∷ []) seen b.talk;
        out = b.out;
        missing = b.missing;
        parts = b.parts;
        short = b.short;
        written = b.written;
        places = b.places;
        commits = b.commits;
      }

  up_to_longer : (why : Option (Fault × ℕ)) → AnswersUpTo s opening script why trace → AnswersUpTo t opening script why trace
  up_to_longer (Some p) a = all_longer (fault p.0 p.1) a
  up_to_longer None a = a

  answers_longer : (how : SessionEnd) → Answers s opening script trace how → Answers t opening script trace how
  answers_longer ended.Done a = all_longer whole a
  answers_longer (ended.Script why) a = up_to_longer (fault_of why) a
  answers_longer ended.TooMany a = all_longer too_many a
  answers_longer ended.TooLong a = a
  answers_longer ended.ReadFault a = a
  answers_longer ended.WriteFault a = breaks_off_longer a
  answers_longer ended.Memory a = some_longer a

pub replies_longer : (s : Setting) (more : List Entry) (stop : Option ℕ) (teller : Bool) (counted : length s.history ≡ basis s.history + 1)
    (grows : basis s.history ≤ basis (s.history ++ more)) (stays : Stays s stop teller) (opening : ℕ) (seen : opening ≤ basis s.history)
    (run : SessionRun)
    → Replies s opening run → Replies (grown s more stop teller) opening run
replies_longer s more stop teller counted grows stays opening seen run r =
    record {
      script = r.script;
      written = r.written;
      taken = r.taken;
      gained = r.gained;
      answers = answers_longer s more stop teller counted grows stays opening seen r.script _ run.end r.answers;
      too_long = r.too_long;
      all = r.all;
    }

SeesAll-longer : (b c seen : ℕ) (ps cs : List ℕ) → b ≤ c → SeesAll b seen ps cs → SeesAll c seen ps cs
SeesAll-longer b c seen [] cs more sees =
    elim sees [ inl none ↦ inl none | inr one ↦ inr (one.0, one.1, one.2, omega (arith, one.3, more)) ]
SeesAll-longer b c seen (p ∷ ps) cs more sees = (
  sees.0,
  omega (arith, sees.1, more),
  elim sees.2 [
    | inl rest ↦ inl (SeesAll-longer b c p ps cs more rest)
    | inr rest ↦ inr (rest.0, rest.1, rest.2, SeesAll-longer b c p ps rest.1 more rest.3)
  ],
)

pub prefixes_longer : (opening b c : ℕ) (ps cs : List ℕ) → b ≤ c → Prefixes opening b ps cs → Prefixes opening c ps cs
prefixes_longer opening b c ps cs more prefixes =
    Prefixes-SeesAll opening c ps cs (SeesAll-longer b c opening ps cs more prefixes.committed_before)
