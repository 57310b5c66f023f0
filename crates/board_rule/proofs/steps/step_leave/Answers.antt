use Rattle.std.proofs.Common.{rules, ap, sym, subst, ◌∙◌, is_some}
use Rattle.board_rule.specs.Views.{HasTurn}
use Rattle.board_rule.proofs.Holding.{leaves_on}
use Rattle.board_rule.proofs.steps.step_leave.Goals as goal

pub unreachable-requires : goal.unreachable-requires
unreachable-requires g c =
    let e =
    sym (c.args.seat.now.turn_by_ticket (ap is_some c.requires.turn.1)) ∙ ap is_some (sym c.args.seat.now.ticket_is ∙ c.in_default.is) in
    cc e

pub store-requires : goal.store-requires
store-requires g c = let v = ap (λ m. m.0) c.open-opened.ensures.2 in (
  search rules,
  search rules,
  leaves_on _ _ _ _ _ c.open-opened.result.me c.in-Some.ticket (subst HasTurn (sym v) c.requires.turn)
      (ap (λ z. z.ticket) v ∙ (sym c.args.seat.now.ticket_is ∙ c.in-Some.is)) (ap (λ z. z.core) v ∙ c.requires.home)
      (ap (λ z. z.grab) v ∙ c.requires.free),
)
