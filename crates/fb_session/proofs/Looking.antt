-- What is shown and read is what the talk of the session says of that.
use Rattle.std.proofs.Common.{◌≡◌, ℕ, List, [], ◌∷◌, Option, Some, None, refl, sym, ap, ◌∙◌, subst, arith, append-nil}
use Rattle.std.specs.Option.{option_map}
use Rattle.edn_model.specs.Form.{Form}
use Rattle.fb_values.specs.declared.facts.Entry.{Entry}
use Rattle.fb_model.specs.History.{basis, upto}
use Rattle.fb_model.proofs.LawfulHistories.{IsLawful-length}
use Rattle.view_model.specs.Window.{Window}
use Rattle.talk_model.specs.Commands.{Read, Command, db, sync, read, command_in}
use Rattle.talk_model.specs.Session.{Setting, Standing, Sight, sight_of, moved, SelectedBy}
use Rattle.talk_model.specs.Reads.{IsReply, behind}
use Rattle.talk_model.specs.Talk.{IsShown, IsReadAnswer, AnswersCommand}
use Rattle.talk_model.proofs.Steps.{behind-place, behind-told}
use Rattle.fb_view.specs.SnapshotModel.{SnapshotModel}
use Rattle.fb_db.specs.Seen.{window_of}
use Rattle.fb_reads.specs.Answers.{standing_at}
use Rattle.fb_desk.specs.Desks.{State, GoesOn, glanced, loaded}
use Rattle.fb_session.specs.declared.session.Session.{Session}
use Rattle.fb_session.specs.Sessions.{over, HasStanding, Shows, KeepsCommit, sight, AnswersRead, Answered}
use Rattle.fb_session.specs.Terms.{Terms}
use Rattle.fb_session.specs.Asks.{Counted}
use Rattle.fb_session.proofs.Counting.{counted_db, counted_sync, counted_read}
use Rattle.fb_session.proofs.Deciding.{upto-basis, grown, still_told, stands_behind}

-- ---- what is shown

module _ {S : Type 0} (f : Terms) (names : S → List (List ℕ)) (was is : State) (before : Standing)
    (old new : Session S) (goes : GoesOn was is) (stands : HasStanding old.view names was before) (shows : Shows old new is)
    (keeps : KeepsCommit old new was is None) where
  shown_in_talk : IsShown (over f is) before (moved before (basis is.entries)) new.line.bytes.items None
  shown_in_talk =
      record {
        place = basis is.entries;
        from = grown f names was is before old goes stands;
        within = omega arith;
        says = shows.says;
        commits = refl;
        stands = refl;
      }

  module _ (form : Form) where
    shown : (command : Option Command) → command_in form ≡ command → Counted (form ∷ []) 0 was.tally is.tally
        → AnswersCommand (over f is) before command (moved before (basis is.entries)) new.line.bytes.items None
        → Answered f form old new names was is before new.line.bytes.items
    shown command asks counted a =
        let after = moved before (basis is.entries) in
        let P : Option Command → Type 0 = λ c. AnswersCommand (over f is) before c after new.line.bytes.items None in
        record {
          after = after;
          commit = None;
          answered = subst P (sym asks) a;
          stands =
              stands_behind f names was is before old goes stands new after shows.sees refl refl refl
              (still_told f names was is before old goes stands);
          keeps = keeps;
          counted = counted;
        }

    pub answered_db : command_in form ≡ Some db → is.tally ≡ glanced was.tally
        → Answered f form old new names was is before new.line.bytes.items
    answered_db asks glances = shown (Some db) asks (counted_db form was.tally is.tally asks glances) shown_in_talk

    pub answered_sync : command_in form ≡ Some sync → is.tally ≡ loaded was.tally
        → Answered f form old new names was is before new.line.bytes.items
    answered_sync asks loads = shown (Some sync) asks (counted_sync form was.tally is.tally asks loads) shown_in_talk

-- ---- what is read

read_said : (s : Setting) (before after : Standing) (bytes : List ℕ) (commit : Option ℕ) (asked : Option Read)
    → IsReadAnswer s before asked after bytes commit
    → AnswersCommand s before (option_map read asked) after bytes commit
read_said s before after bytes commit (Some r) is = is
read_said s before after bytes commit None is = is

-- a standing is its four parts
by_parts : (before : Standing) (place : ℕ) (w : Window) (names : List (List ℕ)) → before.place ≡ place → before.window ≡ w
    → before.filters ≡ names → standing_at place before.was_notified w names ≡ before
by_parts before place w names p q r = λ i. standing_at (sym p i) before.was_notified (sym q i) (sym r i)

module _ {S : Type 0} (f : Terms) (names : S → List (List ℕ))
    (was : State) (before : Standing) (old new : Session S) (stands : HasStanding old.view names was before) (asked : Option Read)
    (reads : AnswersRead old.view new.view names f.is_filter f.Selects f.guard asked new.line.bytes.items) where
  past : upto was.entries before.place ≡ was.entries
  past = ap (upto was.entries) stands.place ∙ upto-basis was.entries (IsLawful-length was.entries stands.lawful)

  seen : old.view.snapshot.entries ≡ upto was.entries before.place
  seen = stands.sees ∙ sym past

  -- what the talk says that its reads have is what the view shows
  abbrev shown_by : Sight
  shown_by = sight old.view names f.is_filter f.Selects f.guard

  same : (P : Sight → Type 0) → P shown_by → P (sight_of (over f was) before)
  same P p = sight_at (upto was.entries before.place) before.window before.filters seen (sym stands.window) (sym stands.filters)
    where
      sight_at : (h : List Entry) (w : Window) (filters : List (List ℕ)) → old.view.snapshot.entries ≡ h → window_of old.view ≡ w
          → names old.view.filter ≡ filters
          → P (record {
            history = h;
            window = w;
            filters = filters;
            Selects = SelectedBy f.Selects filters;
            is_filter = f.is_filter;
            guard = f.guard;
          })
      sight_at h w filters q s e = rw (← q, ← s, ← e) p

  abbrev after : Standing
  after = behind (sight_of (over f was) before) before asked

  read_in_talk : IsReadAnswer (over f was) before asked after new.line.bytes.items None
  read_in_talk =
      record {
        reply = reads.says.0;
        answers = same (λ s. IsReply s asked reads.says.0) reads.says.1;
        says = reads.says.2;
        commits = refl;
        stands = refl;
      }

  -- the standing behind is that of the view now
  after_is : standing_at before.place before.was_notified (window_of new.view) (names new.view.filter) ≡ after
  after_is =
      reads.stands before.place before.was_notified
      ∙ ap (λ standing. behind shown_by standing asked)
      (by_parts before before.place (window_of old.view) (names old.view.filter) refl stands.window stands.filters)
      ∙ same (λ s. behind shown_by before asked ≡ behind s before asked) refl

  stands_after : HasStanding new.view names was after
  stands_after =
      record {
        lawful = stands.lawful;
        sees = ap (λ (s : SnapshotModel). s.entries) reads.snapshot ∙ stands.sees;
        place = behind-place (sight_of (over f was) before) before asked ∙ stands.place;
        window = ap (λ (s : Standing). s.window) (sym after_is);
        filters = ap (λ (s : Standing). s.filters) (sym after_is);
        was_notified = λ told. stands.was_notified (sym (behind-told (sight_of (over f was) before) before asked) ∙ told);
      }

  pub answered_read : (form : Form) → command_in form ≡ option_map read asked → (is : State) → is ≡ was
      → new.commits.items ≡ old.commits.items → Answered f form old new names was is before new.line.bytes.items
  answered_read form asks is still commits =
      let P : Option Command → Type 0 = λ c. AnswersCommand (over f was) before c after new.line.bytes.items None in
      let Q : State → Type 0 = λ state. Answered f form old new names was state before new.line.bytes.items in
      subst Q (sym still)
      (record {
        after = after;
        commit = None;
        answered = subst P (sym asks) (read_said (over f was) before after new.line.bytes.items None asked read_in_talk);
        stands = stands_after;
        keeps = record { commits = commits ∙ sym (append-nil old.commits.items); desk = sym (append-nil was.commits) };
        counted = counted_read form asked was.tally asks;
      })
