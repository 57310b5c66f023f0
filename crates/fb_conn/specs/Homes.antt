-- The history that the value in slot 0 of the board represents, and when its log goes with it.
-- This project's own choice.
use Rattle.std.specs.Prelude.{◌≡◌, ℕ, List, [], ◌∷◌, ◌++◌, length, Option, Some, None, option_map, IfSome}
use base.Stored.{Gv}
use Rattle.fb_values.specs.declared.facts.Entry.{Entry}
use Rattle.fb_values.specs.contracts.facts.Entry as an_entry
use Rattle.fb_model.specs.FirstEntry.{first_entry}
use Rattle.fb_model.specs.Lawful.{IsLawfulAfter}
use Rattle.fb_core.specs.declared.accepting.Draft.{Draft}
use Rattle.fb_core.specs.Cores.{entry_of}
use Rattle.board_rule.specs.declared.view.Stop.{Stop as NamedStop}
use Rattle.board_rule.specs.declared.view.Marks.{Marks}
use Rattle.fb_conn.specs.declared.home.Stop.{Stop}
use Rattle.fb_conn.specs.declared.home.Kept.{Kept}

-- an entry as views have it
abbrev pub code_of : Entry → Gv
code_of = an_entry.the_row.coded.code

-- the entry may be added to a history that is this list so far
abbrev pub follows : List Entry → Entry → Type 0
follows [] entry = entry ≡ first_entry
follows (first ∷ rest) entry = IsLawfulAfter (first ∷ rest) entry

abbrev pub named_stop : Stop → NamedStop
named_stop stop = record { at = stop.at; author = stop.author }

abbrev pub marks_by : Option Stop → ℕ → Marks
marks_by stop covered = record { stop = option_map named_stop stop; covered = covered }

module _ {L : Type 0} (keeps : L → List Entry → L → Type 0)
    (broke : L → List Entry → Entry → L → Type 0) where
  -- The log keeps the history;
  -- or it failed at the entry that was to come next, that of the torn transaction.
  abbrev pub GoesWithLog : L → List Entry → L → Option Stop → Option Draft → Type 0
  GoesWithLog begun entries log None torn = (torn ≡ None) × keeps begun entries log
  GoesWithLog begun entries log (Some stop) torn =
      (stop.at ≡ length entries)
      × ((draft : Draft)
      × (torn ≡ Some draft)
      × (draft.after.entries ≡ entries ++ entry_of draft ∷ [])
      × IsLawfulAfter entries (entry_of draft)
      × broke begun entries (entry_of draft) log)

-- The torn transaction is the stop's author's: beside the authors of the history, it names this one.
abbrev pub IsTornBy : List ℕ → Option Stop → Option Draft → Type 0
IsTornBy authors stopped torn =
    IfSome torn (λ draft. IfSome stopped (λ stop. draft.authors ≡ authors ++ stop.author ∷ []))

module _ {L : Type 0} where
  abbrev pub marks_of : Kept L → Marks
  marks_of home = marks_by home.stop home.core.snapshot.covered

  abbrev pub IsSoundHome : (L → List Entry → L → Type 0) → (L → List Entry → Entry → L → Type 0)
      → Kept L → Type 0
  IsSoundHome keeps broke home =
      GoesWithLog keeps broke home.begun.value home.core.snapshot.entries home.log home.stop home.torn
      × IsTornBy home.core.authors home.stop home.torn
