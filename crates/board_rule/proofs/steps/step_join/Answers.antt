use Rattle.std.proofs.Common.{rules, ◌<◌, ap, sym, subst, ◌∙◌}
use Rattle.board_rule.specs.Seat.{first_of}
use Rattle.board_rule.proofs.Splits.{joins_on}
use Rattle.board_rule.proofs.steps.step_join.Goals as goal

pub join_seat-requires : goal.join_seat-requires
join_seat-requires g c =
    let v = ap (λ m. m.0) c.open-opened.ensures.2 in let u = sym (ap first_of c.into_seat.ensures.2) in (
      search rules,
      search rules,
      search rules,
      search rules,
      joins_on _ _ _ _ c.open-opened.result.me.0 _ c.into_seat.result.me.0 (ap (λ z. z.ticket) v ∙ c.requires.tickets.0)
          (ap (λ z. z.ticket) u ∙ c.requires.tickets.1) (ap (λ z. z.grab) v ∙ c.requires.free.0)
          (ap (λ z. z.grab) u ∙ c.requires.free.1) (subst (λ z. 0 < z.seats) (sym v) c.args.seat.now.live)
          (subst (λ z. 0 < z.seats) (sym u) c.args.other.live),
    )
