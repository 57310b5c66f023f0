-- What became of a form, from what its steps did.
use Rattle.std.proofs.Common.{◌≡◌, ◌⊎◌, ℕ, false, List, [], ◌∷◌, ◌++◌, Option, length, refl, sym, ap, ◌∙◌, subst, inl, inr}
use Rattle.std.specs.Prelude.{option_to_list}
use Rattle.std.specs.List.{concat}
use Rattle.std.specs.Io.KnownBytes.{append_known}
use Rattle.edn_model.specs.Form.{Form}
use Rattle.fb_model.specs.History.{basis}
use Rattle.talk_model.specs.Commands.{command_in}
use Rattle.talk_model.specs.Session.{Standing}
use Rattle.fb_db.specs.declared.db.Db.{Db}
use Rattle.fb_desk.specs.Desks.{Tally, State}
use Rattle.fb_session.specs.declared.session.Session.{Session}
use Rattle.fb_session.specs.declared.waiting.Waiting.{Waiting}
use Rattle.fb_session.specs.Asks.{is_for_desk, Counted}
use Rattle.fb_session.specs.Terms.{Terms}
use Rattle.fb_session.specs.Written.{TakesPart}
use Rattle.fb_session.specs.WaitingLines.{Waits, CutsOff, LineIsOut, IsKept, IsBroken}
use Rattle.fb_session.specs.Sessions.{over, HasStanding, KeepsCommit, Answered, Unanswered, GoesOut, Replied, RepliedPart, RepliedBefore, RepliedNothing}
use Rattle.fb_session.proofs.Counting.{counted-none, counted_nothing}
use Rattle.fb_session.proofs.Quiet.{commits_nothing}
use Rattle.fb_session.proofs.Seeing.{keeps_nothing, unanswered_with_room, answered_with_room, answered_behind, place_of_view}

-- ---- the steps before and behind the reply

module _ {S : Type 0} (terms : S → Terms) (names : S → List (List ℕ)) (form : Form) (old mid built new : Session S) (was is : State)
    (line : List ℕ) (mid_view : mid.view ≡ old.view) (mid_commits : mid.commits.items ≡ old.commits.items)
    (view : new.view ≡ built.view) (commits : new.commits.items ≡ built.commits.items) where
  pub answered_between : ((before : Standing) → HasStanding mid.view names was before
      → Answered (terms mid.view.filter) form mid built names was is before line)
      → (before : Standing) → HasStanding old.view names was before → Answered (terms old.view.filter) form old new names was is before line
  answered_between told before stands =
      answered_behind (terms old.view.filter) form old built new names was is before line view commits
      (answered_with_room old mid built terms names form was is mid_view mid_commits line told before stands)

-- ---- at an end

-- the lines that waited, and one behind them
pub out_behind : (waiting after : Waiting) (lines : List (List ℕ)) (line : List ℕ) (had mid has : Option (List ℕ)) → Waits after []
    → mid ≡ append_known had waiting.bytes.items → has ≡ append_known mid line → Waits waiting lines → LineIsOut lines line after had has
out_behind waiting after lines line had mid has none first then waits =
    record { none = none; written = then ∙ ap (λ o. append_known o line) (first ∙ ap (append_known had) waits.bytes) }

pub part_behind : (waiting : Waiting) (lines : List (List ℕ)) (line : List ℕ) (had mid has : Option (List ℕ))
    → mid ≡ append_known had waiting.bytes.items → TakesPart line mid has → Waits waiting lines
    → TakesPart line (append_known had (concat lines)) has
part_behind waiting lines line had mid has first part waits =
    let Takes : Option (List ℕ) → Type 0 = λ o. TakesPart line o has in subst Takes (first ∙ ap (append_known had) waits.bytes) part

pub all_behind : (waiting : Waiting) (lines : List (List ℕ)) (had has : Option (List ℕ)) → has ≡ append_known had waiting.bytes.items
    → Waits waiting lines → has ≡ append_known had (concat lines)
all_behind waiting lines had has written waits = written ∙ ap (append_known had) waits.bytes

module _ {S : Type 0} (form : Form) (old new : Session S) (was is : State) (lines : List (List ℕ)) (had has : Option (List ℕ)) where
  pub replied : (f : Terms) (names : S → List (List ℕ)) (before : Standing) (line : List ℕ)
      → Answered f form old new names was is before line
      → new.places.items ≡ old.places.items ++ basis new.view.snapshot.entries ∷ []
      → GoesOut form lines line new.waiting had has
      → Replied f form old new names was is before lines had has
  replied f names before line answered places written =
      record {
        line = line;
        answered = answered;
        places =
            places ∙ ap (λ place. old.places.items ++ place ∷ []) (place_of_view new.view names is answered.after answered.stands);
        written = written;
      }

  -- the lines that waited were cut before the desk was asked
  pub cut_at_once : is ≡ was → new.commits.items ≡ old.commits.items
      → CutsOff lines old.places.items new.places.items had has → RepliedBefore old new was is lines had has
  cut_at_once still commits cut =
      record {
        keeps = keeps_nothing old new was is commits (ap (λ (s : State). s.commits) still);
        counted = (let P : State → Type 0 = λ s. Counted [] 0 was.tally s.tally in subst P (sym still) (counted-none was.tally));
        cut = cut;
      }

  module _ (quiet : is_for_desk form ≡ false) (cut : CutsOff lines old.places.items new.places.items had has) where
    -- or behind a form for which the desk is not asked, and which was answered
    pub cut_answered : (f : Terms) (names : S → List (List ℕ)) (before : Standing) (line : List ℕ)
        → Answered f form old new names was is before line → RepliedBefore old new was is lines had has
    cut_answered f names before line a =
        let none = commits_nothing (over f is) before a.after line a.commit (command_in form) quiet a.answered in
        let Keeps : Option ℕ → Type 0 = KeepsCommit old new was is in
        let Counts : Option ℕ → Type 0 = λ commit. Counted (form ∷ []) (length (option_to_list commit)) was.tally is.tally in
        record {
          keeps = subst Keeps none a.keeps;
          counted = counted_nothing form was.tally is.tally quiet (subst Counts none a.counted);
          cut = cut;
        }

    -- or was not
    pub cut_unanswered : Unanswered form old new was is → RepliedBefore old new was is lines had has
    cut_unanswered u =
        record {
          keeps = u.keeps;
          counted = elim u.counted [
            | inl still ↦ (let P : Tally → Type 0 = Counted [] 0 was.tally in subst P (sym still) (counted-none was.tally))
            | inr one ↦ counted_nothing form was.tally is.tally quiet one
          ];
          cut = cut;
        }

-- memory was refused, and the lines that waited are out
pub refused : {S : Type 0} (form : Form) (old mid built new : Session S) (was is : State) (lines : List (List ℕ))
    (had has : Option (List ℕ)) → mid.commits.items ≡ old.commits.items → mid.places.items ≡ old.places.items
    → new.commits.items ≡ built.commits.items → new.places.items ≡ mid.places.items
    → has ≡ append_known had (concat lines) → Unanswered form mid built was is → RepliedNothing form old new was is lines had has
refused form old mid built new was is lines had has mid_commits mid_places commits places written u =
    let one = unanswered_with_room form old mid built was is mid_commits u in
    record {
      unanswered = record {
        keeps = record { commits = commits ∙ one.keeps.commits; desk = one.keeps.desk };
        counted = one.counted;
      };
      places = places ∙ mid_places;
      written = written;
    }

-- ---- a form for which the desk is not asked, whose line may wait

module _ {S : Type 0} (form : Form) (old built new : Session S) (was is : State) (lines : List (List ℕ)) (had has : Option (List ℕ))
    (places : built.places.items ≡ old.places.items) (waiting : built.waiting ≡ old.waiting) (waits : Waits old.waiting lines)
    (rest : new ≡ record built { places = new.places; waiting = new.waiting }) where
  still_waits : Waits built.waiting lines
  still_waits = let W : Waiting → Type 0 = λ w. Waits w lines in subst W (sym waiting) waits

  commits : new.commits.items ≡ built.commits.items
  commits = ap (λ (s : Session S). s.commits.items) rest

  view : new.view ≡ built.view
  view = ap (λ (s : Session S). s.view) rest

  cut_of_old : CutsOff lines built.places.items new.places.items had has → CutsOff lines old.places.items new.places.items had has
  cut_of_old cut = let Cut : List ℕ → Type 0 = λ ps. CutsOff lines ps new.places.items had has in subst Cut places cut

  unanswered_then : Unanswered form old built was is → Unanswered form old new was is
  unanswered_then u =
      record { keeps = record { commits = commits ∙ u.keeps.commits; desk = u.keeps.desk }; counted = u.counted }

  pub unanswered_in_time : is_for_desk form ≡ false
      → ((lines : List (List ℕ)) → Waits built.waiting lines → CutsOff lines built.places.items new.places.items had has)
      → Unanswered form old built was is → RepliedBefore old new was is lines had has
  unanswered_in_time quiet cut u =
      cut_unanswered form old new was is lines had has quiet (cut_of_old (cut lines still_waits)) (unanswered_then u)

  pub refused_in_time : new.places.items ≡ built.places.items → has ≡ append_known had built.waiting.bytes.items → Unanswered form old built was is
      → RepliedNothing form old new was is lines had has
  refused_in_time same written u =
      refused form old old built new was is lines had has refl refl commits (same ∙ places)
      (all_behind built.waiting lines had has written still_waits) u

  module _ (f : Terms) (names : S → List (List ℕ)) (quiet : is_for_desk form ≡ false) (before : Standing)
      (answered : Answered f form old built names was is before built.line.bytes.items) where
    answered_then : Answered f form old new names was is before built.line.bytes.items
    answered_then = answered_behind f form old built new names was is before built.line.bytes.items view commits answered

    pub broken_then : ((lines : List (List ℕ)) → Waits built.waiting lines
        → IsBroken lines built.line.bytes.items built.places.items new.places.items had has)
        → RepliedBefore old new was is lines had has ⊎ RepliedPart f form old new names was is before lines had has
    broken_then broken =
        elim (broken lines still_waits) [
          | inl cut ↦ inl (cut_answered form old new was is lines had has quiet (cut_of_old cut) f names before
              built.line.bytes.items answered_then)
          | inr part ↦ inr (record {
            line = built.line.bytes.items;
            answered = answered_then;
            places = part.keeps ∙ places;
            written = part.taken;
          })
        ]

    pub replied_then : new.places.items ≡ built.places.items ++ basis built.view.snapshot.entries ∷ []
        → ((lines : List (List ℕ)) → Waits built.waiting lines → IsKept lines built.line.bytes.items new.waiting had has)
        → Replied f form old new names was is before lines had has
    replied_then place kept =
        replied form old new was is lines had has f names before built.line.bytes.items answered_then
        (place
        ∙ ap (λ ps. ps ++ basis built.view.snapshot.entries ∷ []) places
        ∙ ap (λ (v : Db S). old.places.items ++ basis v.snapshot.entries ∷ []) (sym view))
        (elim (kept lines still_waits) [ inl later ↦ inl (quiet, later) | inr out ↦ inr out ])
