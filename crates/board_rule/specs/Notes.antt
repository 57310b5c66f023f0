-- When a look may note something, and what the seat knows after it.
-- This project's own choice.
use Rattle.std.specs.Prelude.{◌≡◌, ℕ, List}
use Rattle.board_rule.specs.declared.note.Note.{Note}
use Rattle.board_rule.specs.declared.note.Note.TheVariants.{Nothing, Marks as MarksOf}
use Rattle.board_rule.specs.declared.note.Note.TheVariants.{Found as TheFound}
use Rattle.board_rule.specs.declared.view.Marks.{Marks}
use Rattle.board_rule.specs.declared.view.At.TheVariants.{Away}
use Rattle.board_rule.specs.declared.view.Grab.TheVariants.{Grabbed}
use Rattle.board_rule.specs.declared.view.View.{View}
use Rattle.board_rule.specs.Views.{HasTurn, named_of, MayMark, noted, found, Looks}

module _ {H E : Type 0} (marks : H → Marks) where
  abbrev pub MayNote : Note H → View E → Type 0
  MayNote Nothing v = Unit {0}
  MayNote (MarksOf h) v = HasTurn v × (v.core ≡ Away) × MayMark v.number (named_of v) (marks h.now)
  MayNote TheFound v = v.grab ≡ Grabbed

module _ {H E : Type 0} (lawful : List E → Type 0) (marks : H → Marks) where
  abbrev pub Notes : Note H → View E → ℕ → View E → Type 0
  Notes Nothing v n w = Looks lawful v.turn v n w
  Notes (MarksOf h) v n w = w ≡ noted v (marks h.now)
  Notes TheFound v n w = (l : List E) × (w ≡ found v l)
