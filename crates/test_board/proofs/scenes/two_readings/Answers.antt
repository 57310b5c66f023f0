use Rattle.std.proofs.Common.{◌≡◌, ℕ, List, length, ap, subst, ◌∙◌}
use mathlib.Core.Option.{some}
use lib.ListN.{get_elem?}
use base.Stored.{coded_ℕ}
use Rattle.board_rule.specs.declared.view.Code.{Code}
use Rattle.board_rule.specs.declared.view.View.{View}
use Rattle.board_rule.specs.Views.{StartsWith, codes, note_of}
use Rattle.board_rule.specs.Calls.{view_of}
use Rattle.test_board.proofs.scenes.two_readings.Goals as goal

-- the notes of both joins are there at the close
pub returns-clause-readings : goal.returns-clause-readings
returns-clause-readings g c =
    let notes = c.a_join_adds_its_note_behind_the_others.ensures in
    let back = c.a_beginning_in_codes_is_one_in_entries.ensures in
    let whole = c.close-book.ensures.whole in
    let v : View Code = view_of c.step_split-two.new.seat in let one : View Code = view_of c.read.new.seat in
    let w : View Code = view_of c.step_join.new.seat in
    let two : View Code = view_of c.read-2.new.seat in
    let z : View Code = view_of c.step_join-2.new.seat in
    let book : List ℕ = c.close-book.result.entries.items in let i : ℕ = length v.joined in let k : ℕ = length w.joined in
    let after_one : get_elem? w.joined i ≡ some (note_of v one) =
    ap (λ (u : View Code). get_elem? u.joined i) c.step_join.ensures.both ∙ notes.added v one in
    let of_one : get_elem? z.joined i ≡ some (note_of v one) =
    ap (λ (u : View Code). get_elem? u.joined i) c.step_join-2.ensures.both ∙ notes.stay w two i (note_of v one) after_one in
    let of_two : get_elem? z.joined k ≡ some (note_of w two) =
    ap (λ (u : View Code). get_elem? u.joined k) c.step_join-2.ensures.both ∙ notes.added w two in
    let begins = StartsWith (codes coded_ℕ.code book) in (
      back book c.in_ok-first.first.entries.items (subst begins c.in_ok-first.ensures.seen (whole.joined_seen i (note_of v one) of_one).0),
      back book c.in_ok-second.second.entries.items
          (subst begins c.in_ok-second.ensures.seen (whole.joined_seen k (note_of w two) of_two).0),
    )
