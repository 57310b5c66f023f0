use Rattle.std.proofs.Common.{rules, true, false, ap, sym, subst, ◌∙◌}
use Rattle.board_rule.specs.Views.{MayLetGo}
use Rattle.board_rule.proofs.Reading.{lets_own_go_at}
use Rattle.board_rule.proofs.mail_steps.step_reader_let_go.Goals as goal

pub store-requires : goal.store-requires
store-requires g c =
    let v = ap (λ m. m.0) c.open-opened.ensures.2 in (
      search rules,
      search rules,
      lets_own_go_at _ _ _ _ _ c.args.seat.now.number c.open-opened.result.me true (c.args.seat.now.number_is ∙ ap (λ z. z.number) (sym v))
          (subst (λ z. MayLetGo z.grab) (sym v) c.requires.may),
    )

pub store-requires-else-kept : goal.store-requires-else-kept
store-requires-else-kept g c =
    let v = ap (λ m. m.0) c.open-opened.ensures.2 in (
      search rules,
      search rules,
      lets_own_go_at _ _ _ _ _ c.args.seat.now.number c.open-opened.result.me false (c.args.seat.now.number_is ∙ ap (λ z. z.number) (sym v))
          (subst (λ z. MayLetGo z.grab) (sym v) c.requires.may),
    )
