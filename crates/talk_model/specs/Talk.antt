-- The talk of a session: how each form of its script is answered, over a history that it may share
-- with other sessions.
-- This project's own choice.
use Rattle.std.specs.Prelude.{◌≡◌, ℕ, ◌+◌, ◌-◌, ◌<◌, ◌≤◌, ◌⊎◌, ℤ, true, false, List, [], ◌∷◌, map}
use Rattle.std.specs.Prelude.{filter_map, codes, slice_get, Option, Some, None}
use Rattle.edn_model.specs.Form.{Form}
use Rattle.fb_values.specs.declared.facts.Entry.{Entry}
use Rattle.fb_model.specs.History.{basis, upto}
use Rattle.tx_refusals.specs.declared.reasons.Refusal.{Refusal}
use Rattle.tx_refusals.specs.Reasons.{keyword_of}
use Rattle.tx_model.specs.Step.{step, accepted, refused}
use Rattle.talk_model.specs.Commands.{Read, Command, transact, db, sync, read, command_in}
use Rattle.talk_model.specs.Replies.{receipt, basis_reply, refusal_reply, fault_reply, IsLineOf}
use Rattle.talk_model.specs.Session.{Setting, Standing, sight_of, moved}
use Rattle.talk_model.specs.Reads.{IsReply, behind}

-- ---- transactions

-- The session was notified of no stop of the log, and its transaction is accepted at a
-- place above what it had seen: the entry there is what the step gives after the entries before it,
-- at a number that the clock may read, and the line is that of its receipt.
pub record IsAccepted (s : Setting) (before : Standing) (asked : Form) (after : Standing)
    (line : List ℕ) (commit : Option ℕ) : Type 0 where
  pub going : before.was_notified ≡ false
  pub place : ℕ
  pub above : before.place < place
  pub within : place ≤ basis s.history
  pub reading : ℤ
  pub may_be : s.may reading
  pub entry : Entry
  pub tempids : List (List ℕ × ℕ)
  pub step_is : step (upto s.history (place - 1)) asked reading s.guard ≡ accepted entry tempids
  pub kept : slice_get s.history place ≡ Some entry
  pub says : IsLineOf (receipt place tempids) line
  pub commits : commit ≡ Some place
  pub stands : after ≡ moved before place

-- The session was notified of no stop, and the transaction is refused at a place
-- that the session sees from then on, whatever the clock reads.
pub record IsRefused (s : Setting) (before : Standing) (asked : Form) (after : Standing)
    (line : List ℕ) (commit : Option ℕ) : Type 0 where
  pub going : before.was_notified ≡ false
  pub place : ℕ
  pub from : before.place ≤ place
  pub within : place ≤ basis s.history
  pub refusal : Refusal
  pub step_is : (reading : ℤ) → step (upto s.history place) asked reading s.guard ≡ refused refusal
  pub says : IsLineOf (refusal_reply (keyword_of refusal.reason) refusal.at place) line
  pub commits : commit ≡ None
  pub stands : after ≡ moved before place

-- The log did not take the entry that the step gives at the end of the history: this session's,
-- which is notified of it once.
pub record IsNotTaken (s : Setting) (before : Standing) (asked : Form) (after : Standing)
    (line : List ℕ) (commit : Option ℕ) : Type 0 where
  pub place : ℕ
  pub from : before.place ≤ place
  pub within : place ≤ basis s.history
  pub stops : s.stop ≡ Some (place + 1)
  pub is_teller : s.teller ≡ true
  pub not_notified : before.was_notified ≡ false
  pub reading : ℤ
  pub may_be : s.may reading
  pub entry : Entry
  pub tempids : List (List ℕ × ℕ)
  pub step_is : step (upto s.history place) asked reading s.guard ≡ accepted entry tempids
  pub says : IsLineOf (fault_reply (codes "log") (place + 1) place) line
  pub commits : commit ≡ None
  pub stands : after ≡ record before { place = place; was_notified = true }

-- The log has stopped at the end of the history, and no transaction is looked at from then on.
pub record IsStopped (s : Setting) (before : Standing) (after : Standing) (line : List ℕ)
    (commit : Option ℕ) : Type 0 where
  pub place : ℕ
  pub from : before.place ≤ place
  pub within : place ≤ basis s.history
  pub stops : s.stop ≡ Some (place + 1)
  pub says : IsLineOf (fault_reply (codes "log-stopped") (place + 1) place) line
  pub commits : commit ≡ None
  pub stands : after ≡ record before { place = place; was_notified = true }

-- ---- other commands

-- What there is to see is shown, and seen from then on.
pub record IsShown (s : Setting) (before : Standing) (after : Standing) (line : List ℕ)
    (commit : Option ℕ) : Type 0 where
  pub place : ℕ
  pub from : before.place ≤ place
  pub within : place ≤ basis s.history
  pub says : IsLineOf (basis_reply place) line
  pub commits : commit ≡ None
  pub stands : after ≡ moved before place

-- The read, or what is not a command, is answered of what its session has seen.
pub record IsReadAnswer (s : Setting) (before : Standing) (asked : Option Read) (after : Standing)
    (line : List ℕ) (commit : Option ℕ) : Type 0 where
  pub reply : Form
  pub answers : IsReply (sight_of s before) asked reply
  pub says : IsLineOf reply line
  pub commits : commit ≡ None
  pub stands : after ≡ behind (sight_of s before) before asked

-- ---- each form

abbrev pub AnswersCommand : Setting → Standing → Option Command → Standing → List ℕ → Option ℕ
    → Type 0
AnswersCommand s before (Some (transact asked)) after line commit =
    IsAccepted s before asked after line commit ⊎ (IsRefused s before asked after line commit
    ⊎ (IsNotTaken s before asked after line commit ⊎ IsStopped s before after line commit))
AnswersCommand s before (Some db) after line commit = IsShown s before after line commit
AnswersCommand s before (Some sync) after line commit = IsShown s before after line commit
AnswersCommand s before (Some (read r)) after line commit =
    IsReadAnswer s before (Some r) after line commit
AnswersCommand s before None after line commit = IsReadAnswer s before None after line commit

-- In the setting the form takes the session from one standing to another, with this line, and
-- commits a t or none.
abbrev pub IsAnswered : Setting → Standing → Form → Standing → List ℕ → Option ℕ → Type 0
IsAnswered s before f after line commit = AnswersCommand s before (command_in f) after line commit

-- ---- a script

-- One form of a script, and how it was answered.
pub record Exchange : Type 0 where
  pub form : Form
  -- the t up to which its session had then seen the history
  pub place : ℕ
  pub line : List ℕ
  -- the t that it committed, if any
  pub commit : Option ℕ

abbrev pub forms_of : List Exchange → List Form
forms_of exchanges = map (λ x. x.form) exchanges

abbrev pub places_of : List Exchange → List ℕ
places_of exchanges = map (λ x. x.place) exchanges

abbrev pub lines_of : List Exchange → List (List ℕ)
lines_of exchanges = map (λ x. x.line) exchanges

abbrev pub commits_of : List Exchange → List ℕ
commits_of exchanges = filter_map (λ x. x.commit) exchanges

-- Each form takes the session on from where the one before it left it.
abbrev pub Talk : Setting → Standing → List Exchange → Standing → Type 0
Talk s before [] after = after ≡ before
Talk s before (x ∷ exchanges) after =
    (next : Standing)
    × IsAnswered s before x.form next x.line x.commit
    × (next.place ≡ x.place)
    × Talk s next exchanges after
