use Rattle.board_rule.proofs.Joins.{old_notes, new_note, other_notes}
use Rattle.board_rule.proofs.laws.a_join_adds_its_note_behind_the_others.Goals as goal

pub returns : goal.returns
returns c = record {
  stay = old_notes;
  added = new_note;
  taken = other_notes;
}
