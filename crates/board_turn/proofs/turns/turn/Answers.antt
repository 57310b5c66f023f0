use Rattle.std.proofs.Common.{◌≡◌, ap, sym, subst, ◌∙◌, Some}
use Rattle.board_rule.specs.declared.view.Code.{Code}
use Rattle.board_rule.specs.declared.view.View.{View}
use Rattle.board_rule.specs.Views.{AreLawful, codes, IsSoundSince, Fits}
use Rattle.board_rule.specs.Plays.{CoreHas}
use Rattle.board_rule.proofs.Codes.{lawful_inj}
use Rattle.board_turn.proofs.turns.turn.Goals as goal

pub returns-clause-lawful : goal.returns-clause-lawful
returns-clause-lawful g c =
    let t = c.wait_for_turn.ensures.turn in let f = g.row.H-Entry.coded.code in let home = c.in-Some.home in
    let was =
    subst (λ (z : View Code). CoreHas (λ h. Fits (codes f (g.H.Named.entries h)) (g.H.Named.authors h) (g.H.Named.marks h)
    (IsSoundSince g.H.Named.sound g.H.Named.origin c.args.board.now.table.shared.key.home.value h) z) z.core (Some home)) t.1
    c.in-Some.ensures.was in
    let is : was.0 ≡ home = cc (was.1) in
    lawful_inj g.row.H-Entry.coded g.H.Named.follows (g.H.Named.entries home)
    (subst (AreLawful f g.H.Named.follows) (sym was.2.0 ∙ ap (λ h. codes f (g.H.Named.entries h)) is) t.2.lawful_now)
