-- A session from its source to its end.
use Rattle.std.proofs.Common.{◌≡◌, ℕ, false, ◌||◌, List, [], Option, length, refl, sym, ◌∙◌, subst, inl, arith, append-nil}
use Rattle.std.specs.Prelude.{IsTrue, nat_lt}
use Rattle.std.specs.Io.KnownBytes.{prepend_known}
use Rattle.std.proofs.lemmas.Bool.{true≢false}
use Rattle.fb_model.specs.History.{basis}
use Rattle.talk_model.specs.Session.{opened_at}
use Rattle.talk_model.specs.Prefixes.{Prefixes}
use Rattle.talk_model.proofs.Places.{Prefixes-SeesAll}
use Rattle.fb_desk.specs.Desks.{State, Tally}
use Rattle.fb_session.specs.declared.outcome.Served.{Served}
use Rattle.fb_session.specs.declared.outcome.SessionEnd.{SessionEnd}
use Rattle.fb_session.specs.declared.outcome.SessionEnd.TheVariants as ended
use Rattle.fb_session.specs.declared.reading.ReadStop.TheVariants as stopped
use Rattle.fb_session.specs.Taken.{TakesAll, TakesSome}
use Rattle.fb_session.specs.Replies.{AnswersSome, SessionRun, Replies}
use Rattle.fb_session.specs.Asks.{Asks}
use Rattle.fb_session.specs.Sessions.{over, IsPastReading, Talks}
use Rattle.fb_session.specs.Terms.{Terms}
use Rattle.fb_session.proofs.KnownBytes.{append_known-none}
use Rattle.fb_session.proofs.Seeing.{went_on-nothing}
use Rattle.fb_session.proofs.Counting.{counted-none}

-- what it was handed and hands back
abbrev pub run_of : (held left had has : Option (List ℕ)) → Served → SessionRun
run_of held left had has served =
    record { held = held; left = left; had = had; has = has; places = served.places; commits = served.commits; end = served.end }

-- the script was read to its end
pub replies-whole : (f : Terms) (script : List ℕ) (start now : State) (held left had has : Option (List ℕ)) (served : Served)
    → TakesAll script held left → Talks f script start now had has served
    → Replies (over f now) (basis start.entries) (run_of held left had has served)
replies-whole f script start now held left had has served taken talks =
    record {
      script = script;
      written = talks.written;
      taken = taken.taken;
      gained = talks.gained;
      answers = talks.answers;
      too_long = (
        λ same. absurd (let P : SessionEnd → Type 0 = IsPastReading in subst P same talks.past_reading),
        λ more. absurd (omega (arith, taken.fits)),
      );
      all = λ _. taken.all;
    }

pub prefixes-talk : (f : Terms) (script : List ℕ) (start now : State) (had has : Option (List ℕ)) (served : Served)
    → Talks f script start now had has served → Prefixes (basis start.entries) (basis now.entries) served.places served.commits
prefixes-talk f script start now had has served talks =
    Prefixes-SeesAll (basis start.entries) (basis now.entries) served.places served.commits talks.prefixes

-- nothing was answered and nothing written
none-answered : (f : Terms) (script : List ℕ) (start : State) (served : Served) → served.places ≡ [] → served.commits ≡ []
    → AnswersSome (over f start) (basis start.entries) script (record { written = []; places = served.places; commits = served.commits })
none-answered f script start served p q =
    record {
      exchanges = [];
      after = opened_at (basis start.entries);
      read = record { end = 0; forms = refl; few = omega arith };
      talk = refl;
      leaves = rw (p, q) refl;
    }

pub asks-nothing : (held left : Option (List ℕ)) (script : List ℕ) (tally : Tally) (served : Served) → served.places ≡ []
    → served.commits ≡ [] → held ≡ prepend_known script left → Asks held left served tally tally
asks-nothing held left script tally served p q taken =
    record {
      script = script;
      taken = taken;
      forms = [];
      read = record { end = 0; forms = refl; few = omega arith };
      enough = rw p (omega arith, omega arith);
      counted = rw q (counted-none tally);
    }

-- memory was refused before the first form was looked at
pub talks-unopened : (f : Terms) (script : List ℕ) (start : State) (served : Served) (had : Option (List ℕ)) → served.end ≡ ended.Memory
    → served.places ≡ [] → served.commits ≡ []
    → Talks f script start start had had served
talks-unopened f script start served had e p q =
    record {
      written = [];
      gained = sym (append_known-none had);
      answers = rw e (none-answered f script start served p q);
      prefixes = rw p (inl q);
      commits_are = rw q (sym (append-nil start.commits));
      went_on = went_on-nothing start;
      asks = λ held left taken. asks-nothing held left script start.tally served p q taken;
      seen = λ done. let wrong = sym e ∙ done in absurd (cc);
      past_reading = rw e tt;
    }

-- ---- the script was not read to its end

no_line : (ps cs : List ℕ) → ps ≡ [] → cs ≡ [] → IsTrue (false || (nat_lt 0 (length ps) || nat_lt 0 (length cs))) → ⊥
no_line ps cs p q line =
    let P : List ℕ → Type 0 = λ xs. IsTrue (false || (nat_lt 0 (length xs) || nat_lt 0 (length cs))) in
    let Q : List ℕ → Type 0 = λ xs. IsTrue (false || (nat_lt 0 0 || nat_lt 0 (length xs))) in
    absurd (true≢false (sym (subst Q q (subst P p line))))

-- memory was refused before
pub replies-unread : (f : Terms) (start : State) (served : Served) (held left had : Option (List ℕ)) → served.end ≡ ended.Memory
    → served.places ≡ [] → served.commits ≡ [] → TakesSome stopped.Memory held left
    → Replies (over f start) (basis start.entries) (run_of held left had had served)
replies-unread f start served held left had e p q some =
    record {
      script = some.bytes;
      written = [];
      taken = some.taken;
      gained = sym (append_known-none had);
      answers = rw e (none-answered f some.bytes start served p q);
      too_long = (λ same. let wrong = sym e ∙ same in absurd (cc), λ more. absurd (omega (arith, some.stopped)));
      all = rw e (λ line. absurd (no_line served.places served.commits p q line));
    }
