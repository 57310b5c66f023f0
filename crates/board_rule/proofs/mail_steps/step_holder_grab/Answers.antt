use Rattle.std.proofs.Common.{rules, ap, sym, subst, ◌∙◌}
use Rattle.board_rule.specs.Views.{HasTurn}
use Rattle.board_rule.proofs.Posting.{grabs_mail_on}
use Rattle.board_rule.proofs.mail_steps.step_holder_grab.Goals as goal

pub compare_exchange-met-requires : goal.compare_exchange-met-requires
compare_exchange-met-requires g c =
    let v = ap (λ m. m.0) c.open-opened.ensures.2 in (
      search rules,
      search rules,
      grabs_mail_on _ _ _ _ _ c.args.session c.open-opened.result.me c.requires.session (subst HasTurn (sym v) c.requires.turn)
          (ap (λ z. z.grab) v ∙ c.requires.free),
    )
