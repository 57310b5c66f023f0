use Rattle.std.proofs.Common.{rules, ◌<◌, ap, sym, subst, ◌∙◌}
use Rattle.board_rule.proofs.Splits.{splits_on}
use Rattle.board_rule.proofs.steps.step_split.Goals as goal

pub split_seat-fresh-requires : goal.split_seat-fresh-requires
split_seat-fresh-requires g c = let v = ap (λ m. m.0) c.open-opened.ensures.2 in (
  search rules,
  search rules,
  splits_on _ _ _ _ c.open-opened.result.me.0 (ap (λ z. z.number) v ∙ c.requires.first)
      (subst (λ z. 0 < z.seats) (sym v) c.args.seat.now.live) (subst (λ z. z.given < 2147483648) (sym v) c.requires.few),
)
