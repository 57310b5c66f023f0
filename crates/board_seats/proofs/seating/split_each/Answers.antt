use Rattle.std.proofs.Common.{rules, ◌≡◌, ℕ, List, [], ◌∷◌, ◌++◌, ap, sym, subst, ◌∙◌}
use Rattle.board_rule.specs.declared.seat.BoardSeat.{BoardSeat}
use Rattle.board_rule.specs.declared.view.Code.{Code}
use Rattle.board_rule.specs.declared.view.View.{View}
use Rattle.board_rule.specs.Views.{newcomer, starting}
use Rattle.board_rule.specs.Calls.{view_of}
use Rattle.board_seats.specs.Seating.{AreNew}
use Rattle.board_seats.proofs.Notes.{new_more}
use Rattle.board_seats.proofs.seating.split_each.Goals as goal

pub loop-preserved : goal.loop-preserved
loop-preserved g c =
    let inv = c.loop.invariant in
    let v : View Code = view_of c.args.first.now in
    let n : ℕ = c.loop.counter in
    let x : BoardSeat = c.step_split.result in
    let table = c.args.board.now.table.shared.table_id in let xs : List BoardSeat = c.loop.seats.items in
    let new : view_of x ≡ record (starting v.start v.seen 0) { number = n } =
    c.step_split.ensures.newcomer ∙ ap (λ (z : View Code). newcomer z) inv.1 in
    let pushed : c.push_reserved.new.self.items ≡ xs ++ x ∷ [] = search rules in (
      search rules,
      search rules,
      search rules,
      search rules,
      subst (λ (l : List BoardSeat). AreNew table v.start v.seen l) (sym pushed)
          (new_more table v.start v.seen xs x n inv.2 inv.4 (c.step_split.ensures.seat.1 ∙ (inv.0 ∙ c.requires.seat), new)),
    )
