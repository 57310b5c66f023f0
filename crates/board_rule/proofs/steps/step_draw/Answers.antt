use Rattle.std.proofs.Common.{rules, ◌<◌, ap, sym, subst, ◌∙◌}
use Rattle.board_rule.proofs.Turns.{draws}
use Rattle.board_rule.proofs.steps.step_draw.Goals as goal

pub fetch_add-ticket-requires : goal.fetch_add-ticket-requires
fetch_add-ticket-requires g c = let v = ap (λ m. m.0) c.open-opened.ensures.2 in (
  search rules,
  search rules,
  draws _ _ _ _ _ c.open-opened.result.me (ap (λ z. z.ticket) v ∙ c.requires.free)
      (subst (λ z. z.draws < 4294967296) (sym v) c.requires.few) (subst (λ z. 0 < z.seats) (sym v) c.args.seat.now.live),
)
