-- The talk of a session goes on by one form, and ends.
use Rattle.std.proofs.Common.{◌≡◌, ℕ, ◌+◌, ◌-◌, ◌<◌, ◌≤◌, ◌⊎◌, List, [], ◌∷◌, ◌++◌, Option, Some, None, length, take, refl, sym, ap, ◌∙◌, subst}
use Rattle.std.proofs.Common.{inl, inr, arith, length-append, append_assoc, append-nil}
use Rattle.std.specs.Prelude.{option_to_list}
use Rattle.std.specs.List.{concat, last_or}
use Rattle.std.proofs.Math.Seq.{take-append_seam}
use Rattle.std.proofs.lemmas.List.{length-map, map-append}
use Rattle.std.proofs.lemmas.List.Elements.{filter_map-append}
use Rattle.std.proofs.lemmas.List.Folds.{concat-append}
use Rattle.std.specs.Io.KnownBytes.{prepend_known, append_known}
use Rattle.edn_model.specs.Form.{Form}
use Rattle.edn_model.specs.Grammar.{FormAt}
use Rattle.edn_model.specs.Faults as model
use Rattle.edn_model.specs.Faults.{FaultAt}
use Rattle.edn_core.specs.Answers.{what_of, fault_of, MatchFault}
use Rattle.edn_core.specs.declared.fault.EdnFault.{EdnFault}
use Rattle.edn_core.specs.declared.fault.EdnFault.TheVariants as edn
use Rattle.fb_values.specs.declared.facts.Entry.{Entry}
use Rattle.fb_model.specs.History.{basis}
use Rattle.fb_model.proofs.LawfulHistories.{IsLawful-length}
use Rattle.talk_model.specs.Commands.{command_in}
use Rattle.talk_model.specs.Script.{Ending, whole, fault, too_many, most_commands, FormsBetween, EndsAt, Begins}
use Rattle.talk_model.proofs.OneScript.{FormsBetween-push}
use Rattle.talk_model.specs.Session.{Setting, Standing, setting, opened_at}
use Rattle.talk_model.specs.Talk.{Exchange, forms_of, places_of, lines_of, commits_of, Talk}
use Rattle.talk_model.specs.Prefixes.{SeesAll}
use Rattle.talk_model.proofs.Longer.{Talk-longer}
use Rattle.talk_model.proofs.OneMore.{forms-push, places-push, lines-push, commits-push, Talk-push}
use Rattle.talk_model.proofs.Places.{SeesAll-Talk, SeesAll-unfinished}
use Rattle.fb_desk.specs.Desks.{State, WentOn, GoesOn}
use Rattle.fb_session.specs.declared.outcome.SessionEnd.{SessionEnd}
use Rattle.fb_session.specs.declared.outcome.SessionEnd.TheVariants as ended
use Rattle.fb_session.specs.declared.session.Session.{Session}
use Rattle.fb_session.specs.declared.answering.AnswerError.{AnswerError}
use Rattle.fb_session.specs.declared.answering.AnswerError.TheVariants.{WriteFault, Memory}
use Rattle.fb_session.specs.Replies.{trace_of, AnswersAll, AnswersSome, AnswersUpTo, Answers, SinkCount}
use Rattle.fb_session.specs.Asks.{Counted, Asks}
use Rattle.fb_session.specs.WaitingLines.{Waits, BreaksAt, CutsOff}
use Rattle.fb_session.specs.Sessions.{over, IsOpened, KeepsCommit, Answered, Replied, RepliedPart, RepliedNothing, StopsAt, end_of}
use Rattle.fb_session.specs.Sessions.{Finishes, FinishCount, AreQuiet}
use Rattle.fb_session.specs.Terms.{Terms}
use Rattle.fb_session.specs.Sessions.{TalkSoFar, NoCommand, IsPastReading, served_by, Talks}
use Rattle.fb_session.proofs.KnownBytes.{append_known-none, append_known-append}
use Rattle.fb_session.proofs.Seeing.{went_on-nothing, goes_on-nowhere, keeps_nothing}
use Rattle.fb_session.proofs.Counting.{counted-none, counted-push, counted-shorter}
use Rattle.fb_session.proofs.Quiet.{commits_nothing, quiet-none, quiet-push, quiet-rest, Split, split_at}
use Rattle.fb_session.proofs.Fronts.{Talk-front, FormsBetween-front}

-- one line more is written behind the others
lines-written : (talk : List Exchange) (x : Exchange) → concat (lines_of (talk ++ x ∷ [])) ≡ concat (lines_of talk) ++ x.line
lines-written talk x =
    ap concat (lines-push talk x)
    ∙ concat-append (lines_of talk) (x.line ∷ [])
    ∙ ap (λ line. concat (lines_of talk) ++ line) (append-nil x.line)

-- ---- the desk goes on

stop_stays : (start was is : State) → (start.stop ≡ None) ⊎ ((was.stop ≡ start.stop) × (was.teller ≡ start.teller))
    → (was.stop ≡ None) ⊎ ((is.stop ≡ was.stop) × (is.teller ≡ was.teller))
    → (start.stop ≡ None) ⊎ ((is.stop ≡ start.stop) × (is.teller ≡ start.teller))
stop_stays start was is (inl none) later = inl none
stop_stays start was is (inr same) (inl none) = inl (sym same.0 ∙ none)
stop_stays start was is (inr same) (inr later) = inr (later.0 ∙ same.0, later.1 ∙ same.1)

pub went_on-more : (start was is : State) → WentOn start was → WentOn was is → WentOn start is
went_on-more start was is went goes =
    record {
      more = went.more ++ goes.more;
      entries = goes.entries ∙ ap (λ h. h ++ goes.more) went.entries ∙ append_assoc start.entries went.more goes.more;
      lawful = λ lawful. goes.lawful (went.lawful lawful);
      opening = goes.opening ∙ went.opening;
      stop = stop_stays start was is went.stop goes.stop;
      seat = goes.seat ∙ went.seat;
    }

pub commits_on : {S : Type 0} (start was is : State) (old new : Session S) (commit : Option ℕ)
    → was.commits ≡ start.commits ++ old.commits.items → KeepsCommit old new was is commit → is.commits ≡ start.commits ++ new.commits.items
commits_on start was is old new commit had keeps =
    keeps.desk
    ∙ ap (λ cs. cs ++ option_to_list commit) had
    ∙ append_assoc start.commits old.commits.items (option_to_list commit)
    ∙ ap (λ cs. start.commits ++ cs) (sym keeps.commits)

-- ---- the talk so far

-- the place behind a talk is that of its last line
last-place : (s : Setting) (before after : Standing) (talk : List Exchange) → Talk s before talk after
    → last_or (Some before.place) (places_of talk) ≡ Some after.place
last-place s before after [] same = ap (λ (x : Standing). Some x.place) (sym same)
last-place s before after (x ∷ talk) told =
    let P : ℕ → Type 0 = λ n. last_or (Some n) (places_of talk) ≡ Some after.place in subst P told.2 (last-place s told.0 after talk told.3)

add-zero : (n : ℕ) → n + 0 ≡ n
add-zero n = omega arith

-- nothing was answered yet
pub talk-opened : {S : Type 0} (f : Terms) (names : S → List (List ℕ)) (bytes : List ℕ) (session : Session S) (start : State)
    (had : Option (List ℕ))
    → IsOpened session names start → TalkSoFar f bytes 0 session names start start had had
talk-opened f names bytes session start had opened =
    record {
      exchanges = [];
      standing = opened_at (basis start.entries);
      read = refl;
      few_forms = omega arith;
      talk = refl;
      places = opened.places;
      kept = opened.commits;
      sent = [];
      held = [];
      parts = refl;
      quiet = quiet-none;
      waits = opened.waits;
      written = sym (append_known-none had);
      stands = opened.stands;
      went_on = went_on-nothing start;
      from = omega arith;
      commits = rw opened.commits (sym (append-nil start.commits));
      counted = rw opened.commits (counted-none start.tally);
      within = omega arith;
    }

module _ {S : Type 0} (f : Terms) (names : S → List (List ℕ)) (bytes : List ℕ) (start was : State) (old : Session S)
    (had mid : Option (List ℕ)) (at : ℕ) (so_far : TalkSoFar f bytes at old names start was had mid) where
  -- there is one place for each form
  count-forms : length old.places.items ≡ length (forms_of so_far.exchanges)
  count-forms =
      ap length so_far.places
      ∙ length-map so_far.exchanges (λ (x : Exchange). x.place)
      ∙ sym (length-map so_far.exchanges (λ (x : Exchange). x.form))

  one_more : (x : Exchange) → length old.places.items < most_commands → length (forms_of (so_far.exchanges ++ x ∷ [])) ≤ most_commands
  one_more x room =
      omega (arith, ap length (forms-push so_far.exchanges x), length-append (forms_of so_far.exchanges) (x.form ∷ []), count-forms, room)

  -- ---- the lines that wait

  lines-parts : concat (lines_of so_far.exchanges) ≡ concat (lines_of so_far.sent) ++ concat (lines_of so_far.held)
  lines-parts =
      ap (λ xs. concat (lines_of xs)) so_far.parts
      ∙ ap concat (map-append (λ (x : Exchange). x.line) so_far.sent so_far.held)
      ∙ concat-append (lines_of so_far.sent) (lines_of so_far.held)

  -- where they have gone out, all lines are written
  all-out : (has : Option (List ℕ)) → has ≡ append_known mid (concat (lines_of so_far.held))
      → has ≡ append_known had (concat (lines_of so_far.exchanges))
  all-out has out =
      out
      ∙ ap (λ o. append_known o (concat (lines_of so_far.held))) so_far.written
      ∙ append_known-append had (concat (lines_of so_far.sent)) (concat (lines_of so_far.held))
      ∙ ap (append_known had) (sym lines-parts)

  -- ---- the end

  -- the desk was asked for these forms and no others
  asks-so_far : (how : SessionEnd) (held left : Option (List ℕ)) → held ≡ prepend_known bytes left
      → Asks held left (served_by old how) start.tally was.tally
  asks-so_far how held left taken =
      record {
        script = bytes;
        taken = taken;
        forms = forms_of so_far.exchanges;
        read = record { end = at; forms = so_far.read; few = so_far.few_forms };
        enough = (omega (arith, count-forms), omega (arith, count-forms));
        counted = so_far.counted;
      }

  seen-so_far : last_or (Some (basis start.entries)) old.places.items ≡ Some (basis was.entries)
  seen-so_far =
      ap (last_or (Some (basis start.entries))) so_far.places
      ∙ last-place (over f was) (opened_at (basis start.entries)) so_far.standing so_far.exchanges so_far.talk
      ∙ ap Some so_far.stands.place

  sees-all : SeesAll (basis was.entries) (basis start.entries) old.places.items old.commits.items
  sees-all = rw (
    so_far.places,
    so_far.kept,
  ) (SeesAll-Talk (over f was) (opened_at (basis start.entries)) so_far.standing so_far.exchanges so_far.from so_far.talk)

  -- what was answered so far
  leaves-so_far : record { written = concat (lines_of so_far.exchanges); places = old.places.items; commits = old.commits.items }
      ≡ trace_of so_far.exchanges
  leaves-so_far = rw (so_far.places, so_far.kept) refl

  -- behind the forms stands what the session ended at
  talk-ends : (ending : Ending) → EndsAt bytes (length (forms_of so_far.exchanges)) at ending
      → AnswersAll (over f was) (basis start.entries) bytes ending
      (record { written = concat (lines_of so_far.exchanges); places = old.places.items; commits = old.commits.items })
  talk-ends ending ends =
      record {
        exchanges = so_far.exchanges;
        after = so_far.standing;
        read = record { end = at; forms = so_far.read; few = so_far.few_forms; ends = ends };
        talk = so_far.talk;
        leaves = leaves-so_far;
      }

  -- the session ends so, of which its answers say this
  talk-ended : (has : Option (List ℕ)) → has ≡ append_known mid (concat (lines_of so_far.held)) → (how : SessionEnd) → IsPastReading how
      → Answers (over f was) (basis start.entries) bytes
      (record { written = concat (lines_of so_far.exchanges); places = old.places.items; commits = old.commits.items }) how
      → Talks f bytes start was had has (served_by old how)
  talk-ended has out how past answers =
      record {
        written = concat (lines_of so_far.exchanges);
        gained = all-out has out;
        answers = answers;
        prefixes = sees-all;
        commits_are = so_far.commits;
        went_on = so_far.went_on;
        asks = asks-so_far how;
        seen = λ _. seen-so_far;
        past_reading = past;
      }

  -- behind the forms stands a fault
  fault-answers : (why : EdnFault) → (why ≡ edn.Memory → ⊥) → MatchFault (fault_of why) (FaultAt bytes at)
      → AnswersUpTo (over f was) (basis start.entries) bytes (fault_of why)
      (record { written = concat (lines_of so_far.exchanges); places = old.places.items; commits = old.commits.items })
  fault-answers (edn.Bad byte) no_memory stands = talk-ends (fault model.bad byte) stands
  fault-answers (edn.Unsupported byte what) no_memory stands = talk-ends (fault (model.unsupported (what_of what)) byte) stands
  fault-answers (edn.Deep byte) no_memory stands = talk-ends (fault model.deep byte) stands
  fault-answers (edn.Cut byte) no_memory stands = talk-ends (fault model.cut byte) stands
  fault-answers edn.Memory no_memory stands = absurd (no_memory refl)

  -- memory was refused, and the form behind was not looked at
  memory-answers : AnswersSome (over f was) (basis start.entries) bytes
      (record { written = concat (lines_of so_far.exchanges); places = old.places.items; commits = old.commits.items })
  memory-answers =
      record {
        exchanges = so_far.exchanges;
        after = so_far.standing;
        read = record { end = at; forms = so_far.read; few = so_far.few_forms };
        talk = so_far.talk;
        leaves = leaves-so_far;
      }

  -- no command follows, and the lines that waited have gone out
  module _ (has : Option (List ℕ)) (out : has ≡ append_known mid (concat (lines_of so_far.held))) where
    talk-no_command : (how : SessionEnd) → NoCommand bytes at (length old.places.items) how
        → Talks f bytes start was had has (served_by old how)
    talk-no_command ended.Done none = talk-ended has out ended.Done tt (talk-ends whole none)
    talk-no_command (ended.Script why) none = talk-ended has out (ended.Script why) tt (fault-answers why none.0 none.1)
    talk-no_command ended.TooLong none = absurd none
    talk-no_command ended.TooMany none =
        talk-ended has out ended.TooMany tt
        (talk-ends too_many (omega (arith, count-forms, none.0, so_far.few_forms), none.1, none.2, none.3))
    talk-no_command ended.ReadFault none = absurd none
    talk-no_command ended.WriteFault none = absurd none
    talk-no_command ended.Memory none = talk-ended has out ended.Memory tt memory-answers

  -- ---- the desk goes on, and one form more is answered

  module _ (is : State) (new : Session S) (goes_on : GoesOn was is) where
    abbrev goes : WentOn was is
    goes = goes_on.went_on

    counted : length was.entries ≡ basis was.entries + 1
    counted = IsLawful-length was.entries so_far.stands.lawful

    counted-now : length (was.entries ++ goes.more) ≡ basis (was.entries ++ goes.more) + 1
    counted-now =
        let P : List Entry → Type 0 = λ h. length h ≡ basis h + 1 in
        subst P goes.entries (IsLawful-length is.entries (goes.lawful so_far.stands.lawful))

    grows : basis was.entries ≤ basis (was.entries ++ goes.more)
    grows = omega (arith, counted, counted-now, length-append was.entries goes.more)

    from-now : basis start.entries ≤ basis is.entries
    from-now =
        let same : basis is.entries ≡ basis (was.entries ++ goes.more) = ap basis goes.entries in omega (arith, same, grows, so_far.from)

    talk-now : Talk (over f is) (opened_at (basis start.entries)) so_far.exchanges so_far.standing
    talk-now =
        let P : List Entry → Type 0 =
        λ h. Talk (setting f.may f.Selects f.guard f.is_filter h is.stop is.teller)
        (opened_at (basis start.entries)) so_far.exchanges so_far.standing in
        subst P (sym goes.entries)
        (Talk-longer (over f was) goes.more is.stop is.teller counted grows goes.stop
        (opened_at (basis start.entries)) so_far.standing so_far.exchanges so_far.from so_far.talk)

    -- ---- the sink failed in the lines that waited

    module _ (has : Option (List ℕ)) (keeps : KeepsCommit old new was is None) (still : Counted [] 0 was.tally is.tally)
        (cut : CutsOff (lines_of so_far.held) old.places.items new.places.items mid has) where
      abbrev breaks : BreaksAt (lines_of so_far.held) cut.left mid has
      breaks = cut.breaks

      abbrev split : Split so_far.held breaks.out breaks.broken breaks.behind
      split = split_at so_far.held breaks.out breaks.broken breaks.behind breaks.parts

      -- the exchanges whose lines went out whole, and the one behind them
      abbrev front : List Exchange
      front = so_far.sent ++ split.front

      abbrev up_to : List Exchange
      up_to = front ++ split.last ∷ []

      at_last : so_far.exchanges ≡ front ++ split.last ∷ split.rest
      at_last =
          so_far.parts
          ∙ ap (λ xs. so_far.sent ++ xs) split.parts
          ∙ sym (append_assoc so_far.sent split.front (split.last ∷ split.rest))

      behind_last : so_far.exchanges ≡ up_to ++ split.rest
      behind_last = at_last ∙ sym (append_assoc front (split.last ∷ []) split.rest)

      quiet : AreQuiet split.rest
      quiet =
          let held : so_far.held ≡ (split.front ++ split.last ∷ []) ++ split.rest =
          split.parts ∙ sym (append_assoc split.front (split.last ∷ []) split.rest) in
          quiet-rest (split.front ++ split.last ∷ []) split.rest (subst AreQuiet held so_far.quiet)

      talk-up_to : (after : Standing) × Talk (over f is) (opened_at (basis start.entries)) up_to after
      talk-up_to =
          let Tells : List Exchange → Type 0 = λ xs. Talk (over f is) (opened_at (basis start.entries)) xs so_far.standing in
          Talk-front (over f is) (opened_at (basis start.entries)) so_far.standing up_to split.rest (subst Tells behind_last talk-now)

      forms-parts : forms_of so_far.exchanges ≡ forms_of up_to ++ forms_of split.rest
      forms-parts = ap forms_of behind_last ∙ map-append (λ (x : Exchange). x.form) up_to split.rest

      begins-up_to : Begins bytes (forms_of up_to)
      begins-up_to =
          let Reads : List Form → Type 0 = λ fs. FormsBetween bytes 0 fs at in
          let read = FormsBetween-front bytes 0 (forms_of up_to) (forms_of split.rest) at (subst Reads forms-parts so_far.read) in
          record {
            end = read.0;
            forms = read.1;
            few =
                omega (arith, ap length forms-parts, length-append (forms_of up_to) (forms_of split.rest), so_far.few_forms);
          }

      commits-still : new.commits.items ≡ old.commits.items
      commits-still = keeps.commits ∙ append-nil old.commits.items

      commits-up_to : new.commits.items ≡ commits_of up_to
      commits-up_to =
          commits-still
          ∙ so_far.kept
          ∙ ap commits_of behind_last
          ∙ filter_map-append (λ (x : Exchange). x.commit) up_to split.rest
          ∙ ap (λ commits. commits_of up_to ++ commits) quiet.commits
          ∙ append-nil (commits_of up_to)

      places-front : new.places.items ≡ places_of front
      places-front =
          let all : old.places.items ≡ places_of front ++ split.last.place ∷ places_of split.rest =
          so_far.places ∙ ap places_of at_last ∙ map-append (λ (x : Exchange). x.place) front (split.last ∷ split.rest) in
          let lost : cut.left ≡ length split.rest + 1 =
          breaks.count
          ∙ ap (λ n. n + 1) (ap length (sym split.others) ∙ length-map split.rest (λ (x : Exchange). x.line)) in
          let left : length old.places.items - cut.left ≡ length (places_of front) =
          omega (
            arith,
            ap length all,
            lost,
            length-append (places_of front) (split.last.place ∷ places_of split.rest),
            length-map split.rest (λ (x : Exchange). x.place),
          ) in
          cut.keeps
          ∙ ap (λ n. take n old.places.items) left
          ∙ ap (take (length (places_of front))) all
          ∙ take-append_seam (places_of front) (split.last.place ∷ places_of split.rest)

      lines-front : concat (lines_of front) ≡ concat (lines_of so_far.sent) ++ concat breaks.out
      lines-front =
          ap concat (map-append (λ (x : Exchange). x.line) so_far.sent split.front)
          ∙ concat-append (lines_of so_far.sent) (lines_of split.front)
          ∙ ap (λ lines. concat (lines_of so_far.sent) ++ concat lines) split.lines

      gained-front : has ≡ append_known had (concat (lines_of front) ++ breaks.taken.out)
      gained-front =
          let out = breaks.taken.out in
          breaks.taken.taken
          ∙ ap (λ o. append_known (append_known o (concat breaks.out)) out) so_far.written
          ∙ ap (λ o. append_known o out) (append_known-append had (concat (lines_of so_far.sent)) (concat breaks.out))
          ∙ ap (λ lines. append_known (append_known had lines) out) (sym lines-front)
          ∙ append_known-append had (concat (lines_of front)) out

      talk-cut_off : Talks f bytes start is had has (served_by new ended.WriteFault)
      talk-cut_off =
          let count : length (forms_of up_to) ≡ length (places_of front) + 1 =
          length-map up_to (λ (x : Exchange). x.form)
          ∙ length-append front (split.last ∷ [])
          ∙ ap (λ n. n + 1) (sym (length-map front (λ (x : Exchange). x.place))) in
          record {
            written = concat (lines_of front) ++ breaks.taken.out;
            gained = gained-front;
            answers = record {
              exchanges = front;
              last = split.last;
              after = talk-up_to.0;
              read = begins-up_to;
              talk = talk-up_to.1;
              out = breaks.taken.out;
              missing = breaks.taken.kept;
              parts = split.line ∙ breaks.taken.parts;
              short = breaks.taken.short;
              written = refl;
              places = places-front;
              commits = commits-up_to;
            };
            prefixes =
                let Sees : List ℕ → List ℕ → Type 0 = SeesAll (basis is.entries) (basis start.entries) in
                let SeesAt : List ℕ → Type 0 = λ places. Sees places new.commits.items in
                subst SeesAt (sym places-front)
                (subst (Sees (places_of front)) (sym commits-up_to)
                (SeesAll-unfinished (over f is) (opened_at (basis start.entries)) talk-up_to.0 front split.last from-now talk-up_to.1));
            commits_are = commits_on start was is old new None so_far.commits keeps;
            went_on = went_on-more start was is so_far.went_on goes;
            asks = λ held left taken. record {
              script = bytes;
              taken = taken;
              forms = forms_of up_to;
              read = begins-up_to;
              enough = (omega (arith, count, ap length places-front), omega (arith, count, ap length places-front));
              counted =
                  let Counts : List Form → Type 0 = λ fs. Counted fs (length old.commits.items) start.tally was.tally in
                  let Accepts : List ℕ → Type 0 = λ commits. Counted (forms_of up_to) (length commits) start.tally is.tally in
                  subst Accepts (sym commits-still)
                  (counted-shorter (forms_of up_to) (forms_of split.rest) (length old.commits.items) start.tally was.tally is.tally
                  (subst Counts forms-parts so_far.counted) quiet.asks still);
            };
            seen = λ wrong. absurd (cc);
            past_reading = tt;
          }

    module _ (form : Form) (line : List ℕ) (answered : Answered f form old new names was is so_far.standing line) where
      abbrev last : Exchange
      last = record { form = form; place = answered.after.place; line = line; commit = answered.commit }

      talk-one_more : Talk (over f is) (opened_at (basis start.entries)) (so_far.exchanges ++ last ∷ []) answered.after
      talk-one_more =
          Talk-push (over f is)
          (opened_at (basis start.entries)) so_far.standing answered.after so_far.exchanges last talk-now answered.answered refl

      commits-one_more : new.commits.items ≡ commits_of (so_far.exchanges ++ last ∷ [])
      commits-one_more =
          answered.keeps.commits ∙ ap (λ cs. cs ++ option_to_list answered.commit) so_far.kept ∙ sym (commits-push so_far.exchanges last)

      counted-one_more : Counted (forms_of (so_far.exchanges ++ last ∷ [])) (length new.commits.items) start.tally is.tally
      counted-one_more =
          let accepted : length new.commits.items ≡ length old.commits.items + length (option_to_list answered.commit) =
          ap length answered.keeps.commits ∙ length-append old.commits.items (option_to_list answered.commit) in
          rw (accepted, forms-push so_far.exchanges last)
          (counted-push (forms_of so_far.exchanges) form (length old.commits.items)
          (length (option_to_list answered.commit)) start.tally was.tally is.tally so_far.counted answered.counted)

      sees-unfinished : SeesAll (basis is.entries) (basis start.entries) old.places.items new.commits.items
      sees-unfinished =
          rw (so_far.places, commits-one_more)
          (SeesAll-unfinished (over f is) (opened_at (basis start.entries)) answered.after so_far.exchanges last from-now talk-one_more)

    module _ (next : ℕ) (form : Form) (ahead : at < next) (within : next ≤ length bytes) (room : length old.places.items < most_commands)
        (read : FormAt bytes at form next) (has : Option (List ℕ)) where
      -- the forms up to the one behind
      forms-one_more : (x : Exchange) → x.form ≡ form → FormsBetween bytes 0 (forms_of (so_far.exchanges ++ x ∷ [])) next
      forms-one_more x is =
          rw (forms-push so_far.exchanges x, is) (FormsBetween-push bytes 0 (forms_of so_far.exchanges) at form next so_far.read read)

      count-and-this : length (forms_of so_far.exchanges ++ form ∷ []) ≡ length (forms_of so_far.exchanges) + 1
      count-and-this = length-append (forms_of so_far.exchanges) (form ∷ [])

      few-and-this : length (forms_of so_far.exchanges ++ form ∷ []) ≤ most_commands
      few-and-this = omega (arith, count-and-this, count-forms, room)

      enough-one_more : (x : Exchange) → new.places.items ≡ old.places.items
          → (length new.places.items ≤ length (forms_of (so_far.exchanges ++ x ∷ [])))
          × (length (forms_of (so_far.exchanges ++ x ∷ [])) ≤ length new.places.items + 1)
      enough-one_more x places =
          let forms : length (forms_of (so_far.exchanges ++ x ∷ [])) ≡ length (forms_of so_far.exchanges) + 1 =
          ap length (forms-push so_far.exchanges x) ∙ length-append (forms_of so_far.exchanges) (x.form ∷ []) in
          (omega (arith, forms, count-forms, ap length places), omega (arith, forms, count-forms, ap length places))

      -- one more form was answered, and of the lines so far these wait
      talk-on : (r : Replied f form old new names was is so_far.standing (lines_of so_far.held) mid has) → let x = last form r.line r.answered in
          (sent held : List Exchange) → so_far.exchanges ++ x ∷ [] ≡ sent ++ held → AreQuiet held → Waits new.waiting (lines_of held)
          → has ≡ append_known had (concat (lines_of sent)) → TalkSoFar f bytes next new names start is had has
      talk-on r sent held parts quiet waits written =
          let x = last form r.line r.answered in
          record {
            exchanges = so_far.exchanges ++ x ∷ [];
            standing = r.answered.after;
            read = forms-one_more x refl;
            few_forms = one_more x room;
            talk = talk-one_more form r.line r.answered;
            places = r.places ∙ ap (λ ps. ps ++ x.place ∷ []) so_far.places ∙ sym (places-push so_far.exchanges x);
            kept = commits-one_more form r.line r.answered;
            sent = sent;
            held = held;
            parts = parts;
            quiet = quiet;
            waits = waits;
            written = written;
            stands = r.answered.stands;
            went_on = went_on-more start was is so_far.went_on goes;
            from = from-now;
            commits = commits_on start was is old new r.answered.commit so_far.commits r.answered.keeps;
            counted = counted-one_more form r.line r.answered;
            within = within;
          }

      -- its line waits, or is out behind those that waited
      pub talk-replied : Replied f form old new names was is so_far.standing (lines_of so_far.held) mid has → TalkSoFar f bytes next new names start is had has
      talk-replied r =
          let x = last form r.line r.answered in
          let none = commits_nothing (over f is) so_far.standing r.answered.after r.line r.answered.commit (command_in form) in
          let IsWaiting : List (List ℕ) → Type 0 = Waits new.waiting in
          elim r.written [
            | inl later ↦ talk-on r so_far.sent (so_far.held ++ x ∷ [])
                (ap (λ xs. xs ++ x ∷ []) so_far.parts ∙ append_assoc so_far.sent so_far.held (x ∷ []))
                (quiet-push so_far.held x so_far.quiet later.0 (none later.0 r.answered.answered))
                (subst IsWaiting (sym (lines-push so_far.held x)) later.1.waits)
                (later.1.still ∙ so_far.written)
            | inr out ↦ talk-on r (so_far.exchanges ++ x ∷ []) [] (sym (append-nil (so_far.exchanges ++ x ∷ []))) quiet-none out.none
                (out.written
                ∙ ap (λ o. append_known o r.line) (all-out (append_known mid (concat (lines_of so_far.held))) refl)
                ∙ append_known-append had (concat (lines_of so_far.exchanges)) r.line
                ∙ ap (append_known had) (sym (lines-written so_far.exchanges x)))
          ]

      -- the sink failed in the middle of the line of the form behind
      talk-breaks_off : RepliedPart f form old new names was is so_far.standing (lines_of so_far.held) mid has
          → Talks f bytes start is had has (served_by new ended.WriteFault)
      talk-breaks_off r =
          let x = last form r.line r.answered in
          let begins : Begins bytes (forms_of (so_far.exchanges ++ x ∷ [])) =
          record { end = next; forms = forms-one_more x refl; few = one_more x room } in
          let part = r.written in
          let out = part.out in
          record {
            written = concat (lines_of so_far.exchanges) ++ out;
            gained =
                part.taken
                ∙ ap (λ o. append_known o out) (all-out (append_known mid (concat (lines_of so_far.held))) refl)
                ∙ append_known-append had (concat (lines_of so_far.exchanges)) out;
            answers = record {
              exchanges = so_far.exchanges;
              last = x;
              after = r.answered.after;
              read = begins;
              talk = talk-one_more form r.line r.answered;
              out = out;
              missing = part.kept;
              parts = part.parts;
              short = part.short;
              written = refl;
              places = r.places ∙ so_far.places;
              commits = commits-one_more form r.line r.answered;
            };
            prefixes = rw r.places (sees-unfinished form r.line r.answered);
            commits_are = commits_on start was is old new r.answered.commit so_far.commits r.answered.keeps;
            went_on = went_on-more start was is so_far.went_on goes;
            asks = λ held left taken. record {
              script = bytes;
              taken = taken;
              forms = forms_of (so_far.exchanges ++ x ∷ []);
              read = begins;
              enough = enough-one_more x r.places;
              counted = counted-one_more form r.line r.answered;
            };
            seen = λ wrong. absurd (cc);
            past_reading = tt;
          }

      -- memory was refused, and nothing was committed for the form behind
      talk-refused : RepliedNothing form old new was is (lines_of so_far.held) mid has → Talks f bytes start is had has (served_by new ended.Memory)
      talk-refused r =
          let same : new.commits.items ≡ old.commits.items = r.unanswered.keeps.commits ∙ append-nil old.commits.items in
          record {
            written = concat (lines_of so_far.exchanges);
            gained = all-out has r.written;
            answers = record {
              exchanges = so_far.exchanges;
              after = so_far.standing;
              read = record { end = at; forms = so_far.read; few = so_far.few_forms };
              talk = talk-now;
              leaves = rw (r.places ∙ so_far.places, same ∙ so_far.kept) refl;
            };
            prefixes = rw (r.places ∙ so_far.places, same ∙ so_far.kept)
                (SeesAll-Talk (over f is) (opened_at (basis start.entries)) so_far.standing so_far.exchanges from-now talk-now);
            commits_are = commits_on start was is old new None so_far.commits r.unanswered.keeps;
            went_on = went_on-more start was is so_far.went_on goes;
            asks = λ held left taken. elim r.unanswered.counted [
              | inl still ↦ record {
                script = bytes;
                taken = taken;
                forms = forms_of so_far.exchanges;
                read = record { end = at; forms = so_far.read; few = so_far.few_forms };
                enough = (omega (arith, count-forms, ap length r.places), omega (arith, count-forms, ap length r.places));
                counted = rw (still, same) so_far.counted;
              }
              | inr more ↦ record {
                script = bytes;
                taken = taken;
                forms = forms_of so_far.exchanges ++ form ∷ [];
                read = record {
                  end = next;
                  forms = FormsBetween-push bytes 0 (forms_of so_far.exchanges) at form next so_far.read read;
                  few = few-and-this;
                };
                enough = (
                  omega (arith, count-and-this, count-forms, ap length r.places),
                  omega (arith, count-and-this, count-forms, ap length r.places),
                );
                counted = rw same (rw (add-zero (length old.commits.items)) at
                    (counted-push (forms_of so_far.exchanges) form
                    (length old.commits.items) 0 start.tally was.tally is.tally so_far.counted more));
              }
            ];
            seen = λ wrong. absurd (cc);
            past_reading = tt;
          }

      -- the form behind was not answered
      pub talk-stops : (stop : AnswerError) → StopsAt f form old new names was is so_far.standing (lines_of so_far.held) mid has stop
          → Talks f bytes start is had has (served_by new (end_of stop))
      talk-stops WriteFault (inl before) =
          talk-cut_off has before.keeps before.counted before.cut
      talk-stops WriteFault (inr part) = talk-breaks_off part
      talk-stops Memory stopped = talk-refused stopped

  -- ---- no command follows

  pub talk-finished : (asked how : SessionEnd) (new : Session S) (has : Option (List ℕ))
      → NoCommand bytes at (length old.places.items) asked → new.commits.items ≡ old.commits.items
      → Finishes (lines_of so_far.held) old.places.items new.places.items mid has asked how
      → Talks f bytes start was had has (served_by new how)
  talk-finished asked how new has none commits (inl done) =
      rw (done.ends, done.keeps, commits) (talk-no_command has done.written asked none)
  talk-finished asked how new has none commits (inr cut) =
      rw cut.0
      (talk-cut_off was new (goes_on-nowhere was) has (keeps_nothing old new was was commits refl) (counted-none was.tally) cut.1)

-- nor did the sink fail
no_command-count : (bytes : List ℕ) (at count : ℕ) (how : SessionEnd) (old new : ℕ) → NoCommand bytes at count how → new ≡ old
    → SinkCount how old new
no_command-count bytes at count ended.Done old new none same = same
no_command-count bytes at count (ended.Script why) old new none same = same
no_command-count bytes at count ended.TooLong old new none same = absurd none
no_command-count bytes at count ended.TooMany old new none same = same
no_command-count bytes at count ended.ReadFault old new none same = absurd none
no_command-count bytes at count ended.WriteFault old new none same = absurd none
no_command-count bytes at count ended.Memory old new none same = same

pub finish-count : (bytes : List ℕ) (at count : ℕ) (asked how : SessionEnd) (old new : ℕ) → NoCommand bytes at count asked
    → FinishCount asked how old new → SinkCount how old new
finish-count bytes at count asked how old new none (inl same) = rw same.0 (no_command-count bytes at count asked old new none same.1)
finish-count bytes at count asked how old new none (inr failed) = rw failed.0 failed.1
