-- How often a session asks its desk for the forms of its script.
-- This project's own choice.
use Rattle.std.specs.Prelude.{◌≡◌, ℕ, ◌+◌, ◌≤◌, Bool, true, false, ◌||◌, List, Option, Some, length}
use Rattle.std.specs.Prelude.{count_by}
use Rattle.std.specs.Io.KnownBytes.{prepend_known}
use Rattle.edn_model.specs.Form.{Form}
use Rattle.talk_model.specs.Script.{Begins}
use Rattle.talk_model.specs.Commands.{Command, transact, db, sync, command_in}
use Rattle.fb_desk.specs.Desks.{Tally}
use Rattle.fb_session.specs.declared.outcome.Served.{Served}

-- ---- which commands ask it

abbrev pub looks : Option Command → Bool
looks (Some db) = true
looks command = false

abbrev pub catches_up : Option Command → Bool
catches_up (Some sync) = true
catches_up command = false

abbrev pub transacts : Option Command → Bool
transacts (Some (transact asked)) = true
transacts command = false

abbrev pub is_asked : Option Command → Bool
is_asked command = transacts command || (looks command || catches_up command)

-- ---- and which forms

abbrev pub is_db : Form → Bool
is_db f = looks (command_in f)

abbrev pub is_sync : Form → Bool
is_sync f = catches_up (command_in f)

abbrev pub is_transact : Form → Bool
is_transact f = transacts (command_in f)

abbrev pub is_for_desk : Form → Bool
is_for_desk f = is_asked (command_in f)

-- The desk was asked for these forms, and accepted so many:
-- each `:db` looked once at what was mailed,
-- and each `:sync`, and each transaction that was not accepted, read all that there was once.
pub record Counted (forms : List Form) (accepted : ℕ) (old new : Tally) : Type 0 where
  pub glances : new.glances ≡ old.glances + count_by is_db forms
  pub loads : new.loads + accepted
      ≡ old.loads + (count_by is_sync forms + count_by is_transact forms)

-- A session asks its desk for the script's first forms:
-- for each that has its line, and at most for the one after these.
pub record Asks (held left : Option (List ℕ)) (served : Served) (old new : Tally) : Type 0 where
  pub script : List ℕ
  pub taken : held ≡ prepend_known script left
  pub forms : List Form
  pub read : Begins script forms
  pub enough : (length served.places ≤ length forms)
      × (length forms ≤ length served.places + 1)
  pub counted : Counted forms (length served.commits) old new
