use Rattle.std.proofs.Common.{rules, ◌<◌, ap, sym, subst, ◌∙◌}
use Rattle.board_rule.proofs.Reading.{grabs_own_at}
use Rattle.board_rule.proofs.mail_steps.step_reader_grab.Goals as goal

pub compare_exchange-met-requires : goal.compare_exchange-met-requires
compare_exchange-met-requires g c =
    let v = ap (λ m. m.0) c.open-opened.ensures.2 in (
      search rules,
      search rules,
      grabs_own_at _ _ _ _ _ c.args.seat.now.number c.open-opened.result.me (c.args.seat.now.number_is ∙ ap (λ z. z.number) (sym v))
          (subst (λ z. z.number < c.args.board.now.table.shared.key.sessions) (sym v) c.requires.session)
          (subst (λ z. 0 < z.seats) (sym v) c.args.seat.now.live) (ap (λ z. z.grab) v ∙ c.requires.free),
    )
