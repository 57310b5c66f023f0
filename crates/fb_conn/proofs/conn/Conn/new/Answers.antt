use Rattle.std.proofs.Common.{◌≡◌, ◌∙◌, ℕ, ◌<◌, List, length, ap, sym, subst, arith}
use Rattle.std.specs.List.{All}
use Rattle.std.proofs.lemmas.Option.{slice_get_within}
use mathlib.Core.Option.{some}
use lib.ListN.{get_elem?, length-map}
use Rattle.fb_values.specs.declared.facts.Entry.{Entry}
use Rattle.fb_model.specs.History.{basis}
use Rattle.fb_model.specs.Lawful.{IsLawful}
use Rattle.fb_model.proofs.LawfulHistories.{IsLawful-length}
use Rattle.fb_view.specs.SnapshotModel.{SnapshotModel}
use Rattle.fb_core.specs.declared.shared.CoreParts.{CoreParts}
use Rattle.board_rule.specs.declared.seat.BoardSeat.{BoardSeat}
use Rattle.board_rule.specs.declared.view.Code.{Code}
use Rattle.board_rule.specs.declared.view.View.{View}
use Rattle.board_rule.specs.Views.{codes}
use Rattle.board_rule.specs.Calls.{view_of, board_of}
use Rattle.fb_conn.specs.Homes.{code_of}
use Rattle.fb_conn.specs.Seats.{board_in, last_in}
use Rattle.fb_conn.proofs.Places.{made_at, each_made}
use Rattle.fb_conn.proofs.Histories.{each_follows}
use Rattle.fb_conn.proofs.States.{as_new}
use Rattle.fb_conn.proofs.conn.Conn.new.Goals as goal

pub open-requires-clause-history : goal.open-requires-clause-history
open-requires-clause-history g c =
    each_follows c.in_ok-home.home.core.snapshot.entries
    (subst (λ (p : CoreParts). IsLawful p.snapshot.entries) (sym c.in_ok-home.ensures.core)
    c.snapshot.ensures.stands.snapshot.history.lawful)

pub returns-in-Ok-open-clause-seats : goal.returns-in-Ok-open-clause-seats
returns-in-Ok-open-clause-seats g c = λ k seat at.
    let h = c.args.core.snapshot.entries in
    let kept = c.in_ok-home.home.core.snapshot.entries in
    let same : kept ≡ h = ap (λ (p : CoreParts). p.snapshot.entries) c.in_ok-home.ensures.core in
    let opened = c.in-Ok-open.field-0 in
    let made = c.in-Ok-open.ensures in
    let seats = c.seats_of.result.items in
    let boards = c.seats_of.ensures.boards in let count = IsLawful-length h c.snapshot.ensures.stands.snapshot.history.lawful in
    let given : All (λ (s : SnapshotModel). s ≡ c.snapshot.result.now) c.in-Ok.shares.lasts.items = c.in-Ok.ensures.lasts.1 in
    let all = subst (All (λ (s : SnapshotModel). s ≡ c.snapshot.result.now)) (sym c.seats_of.ensures.lasts) given in
    let last : seat.last.entries ≡ h =
    ap (λ (s : SnapshotModel). s.entries)
    (each_made last_in (λ (s : SnapshotModel). s ≡ c.snapshot.result.now) seats k seat all at ∙ c.snapshot.ensures.snapshot) in
    let new =
    made.seats k seat.board (subst (λ (l : List BoardSeat). get_elem? l k ≡ some seat.board) boards (made_at board_in seats k seat at)) in
    let view = new.1 in let start : ℕ = opened.board.table.shared.key.start in
    let begins : start ≡ basis h = omega (arith, made.board.2, ap (length {A = Entry}) same, count) in
    let within : k < length seats = slice_get_within seats k seat at in
    let wide : length seats ≡ opened.board.table.shared.key.sessions =
    sym (length-map seats board_in) ∙ (ap (length {A = BoardSeat}) boards ∙ (made.count ∙ sym made.board.1)) in
    let number : (view_of seat.board).number ≡ k = ap (λ (z : View Code). z.number) view in (
      (
        record {
          on = new.0;
          idle = (ap (λ (z : View Code). z.ticket) view, ap (λ (z : View Code). z.turn) view, ap (λ (z : View Code). z.grab) view);
          alone = ap (λ (z : View Code). z.seats) view;
          seen = ap (λ (z : View Code). z.seen) view ∙ ap (codes code_of) (same ∙ sym last);
        },
        omega (arith, number, within, wide),
      ),
      number,
      as_new (board_of seat.board) (view_of seat.board) seat.last.entries h start k (codes code_of kept) view last begins,
    )

pub returns-in-Ok-open-clause-worker : goal.returns-in-Ok-open-clause-worker
returns-in-Ok-open-clause-worker g c =
    let h = c.args.core.snapshot.entries in
    let kept = c.in_ok-home.home.core.snapshot.entries in
    let same : kept ≡ h = ap (λ (p : CoreParts). p.snapshot.entries) c.in_ok-home.ensures.core in
    let opened = c.in-Ok-open.field-0 in
    let made = c.in-Ok-open.ensures in
    let view = made.first in
    let count = IsLawful-length h c.snapshot.ensures.stands.snapshot.history.lawful in
    let start : ℕ = opened.board.table.shared.key.start in
    let begins : start ≡ basis h = omega (arith, made.board.2, ap (length {A = Entry}) same, count) in
    let last : c.in-Ok.shares.worker.entries ≡ h =
    ap (λ (s : SnapshotModel). s.entries) (c.in-Ok.ensures.worker ∙ c.snapshot.ensures.snapshot) in (
      (
        record {
          on = made.board.0;
          idle = (ap (λ (z : View Code). z.ticket) view, ap (λ (z : View Code). z.turn) view, ap (λ (z : View Code). z.grab) view);
          alone = ap (λ (z : View Code). z.seats) view;
          seen = ap (λ (z : View Code). z.seen) view ∙ ap (codes code_of) (same ∙ sym last);
        },
        ap (λ (z : View Code). z.number) view,
        ap (λ (z : View Code). z.commits) view,
      ),
      ap (λ (z : View Code). z.given) view ∙ (ap length c.of.ensures ∙ c.in-Ok.ensures.mails.0),
      ap (λ (z : View Code). z.covered) view ∙ ap (λ (p : CoreParts). p.snapshot.covered) c.in_ok-home.ensures.core,
      ap (λ (z : View Code). z.start) view ∙ begins,
      last,
    )
