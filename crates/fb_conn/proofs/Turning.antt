-- What the holder of the turn has, and what its view is when the turn is over.
use Rattle.std.proofs.Common.{◌≡◌, ◌∙◌, ℕ, List, Some, sym, ap}
use Rattle.fb_values.specs.declared.facts.Entry.{Entry}
use Rattle.board_rule.specs.declared.view.Marks.{Marks}
use Rattle.board_rule.specs.declared.view.Code.{Code}
use Rattle.board_rule.specs.declared.view.View.{View}
use Rattle.board_rule.specs.Views.{codes, story, authors_in, marks_in, authors_of}
use Rattle.board_rule.specs.Calls.{view_of}
use Rattle.board_turn.specs.Turn.{left}
use Rattle.board_seats.specs.Sight.{Holds}
use Rattle.board_seats.specs.Turning.{gained}
use Rattle.fb_conn.specs.declared.conn.Conn.{Conn}
use Rattle.fb_conn.specs.declared.home.Kept.{Kept}
use Rattle.fb_conn.specs.declared.seats.Seat.{Seat}
use Rattle.fb_conn.specs.Homes.{code_of}
use Rattle.fb_conn.specs.Turns.{HasTurn, committed}

pub holds : {L R : Type 0} (conn : Conn L R) (seat : Seat) (home : Kept L) → HasTurn conn seat home
    → Holds code_of (view_of seat.board) home.core.snapshot.entries (authors_of (view_of seat.board))
holds conn seat home has =
    let y = sym has.turn in
    (has.turn ∙ (λ i. Some (story (codes code_of home.core.snapshot.entries) (authors_in (y i)) (marks_in (y i)))), has.core, has.grab)

-- after a commit, in the draft's words
pub is_committed : (v w x : View Code) (entries grown : List Entry) (authors : List ℕ) (n t u : ℕ) (marks named : Marks) → x ≡ left w named
    → w ≡ record (gained code_of v u grown authors n) { met = w.met } → grown ≡ entries → named ≡ marks → u ≡ t
    → x ≡ committed v entries t marks x.met
is_committed v w x entries grown authors n t u marks named ends adds same_entries same_marks same_t =
    let met : w.met ≡ x.met = sym (ap (λ (z : View Code). z.met) ends) in
    ends ∙ (ap (λ (z : View Code). left z named) adds ∙ (λ i. committed v (same_entries i) (same_t i) (same_marks i) (met i)))
