use Rattle.std.proofs.Common.{rules, ap, sym, subst, ◌∙◌}
use Rattle.board_rule.specs.declared.view.Content.TheVariants.{Full}
use Rattle.board_rule.specs.declared.view.Grab.TheVariants.{Writing}
use Rattle.board_rule.specs.Views.{HasTurn, history_of}
use Rattle.board_rule.proofs.Posting.{lets_mail_go_on}
use Rattle.board_rule.proofs.mail_steps.step_holder_let_go.Goals as goal

pub store-requires : goal.store-requires
store-requires g c =
    let v = ap (λ m. m.0) c.open-opened.ensures.2 in (
      search rules,
      search rules,
      lets_mail_go_on _ _ _ _ _ c.args.session c.open-opened.result.me (subst HasTurn (sym v) c.requires.turn)
          (ap (λ z. z.grab) v ∙ (c.requires.whole ∙ ap (λ z. Writing c.args.session (Full (history_of z))) (sym v))),
    )
