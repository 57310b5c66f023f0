use Rattle.std.proofs.Common.{rules, ◌≡◌, [], ◌∷◌, ap, sym, subst, ◌∙◌, IfSome}
use Rattle.atomic_table.specs.Table.{rest}
use Rattle.board_rule.specs.declared.board.SlotValue.TheVariants.{Core}
use Rattle.board_rule.specs.declared.view.Code.{Code}
use Rattle.board_rule.specs.declared.view.At.TheVariants.{Hand}
use Rattle.board_rule.specs.declared.view.View.{View}
use Rattle.board_rule.specs.Views.{HasTurn, core_rests, codes, IsSoundSince, Fits}
use Rattle.board_rule.specs.Calls.{view_of}
use Rattle.board_rule.proofs.Cores.{takes_core_on, puts_core_on}
use Rattle.board_rule.proofs.steps.move_core.Goals as goal

pub load-requires : goal.load-requires
load-requires g c = let v = ap (λ m. m.0) c.open-opened.ensures.2 in (
  search rules,
  search rules,
  takes_core_on _ _ _ _ _ c.open-opened.result.me
      (λ h. g.H.Named.sound h × g.B.PickedOrigin.kept h) (λ h s. (s.0, c.requires.picked h s.1)) (subst HasTurn (sym v) c.requires.turn)
      (ap (λ z. core_rests z.core) v ∙ c.args.seat.now.rests.0) (ap (λ m. m.1) c.open-opened.ensures.2),
)

pub exchange-requires : goal.exchange-requires
exchange-requires g c =
    let t = c.load.ensures.2 in (search rules, (Core t.0, ap (λ m. m.1) t.1 ∙ ap (λ z. (0, Core t.0) ∷ z) (sym (ap (λ m. rest m.1) t.1))))

pub load-requires-2 : goal.load-requires-2
load-requires-2 g c =
    let t = c.load.ensures.2 in let v = ap (λ m. m.0) c.open-opened.ensures.2 in let now = c.exchange.ensures.3 in
    let w : View Code = record (view_of c.args.seat.now) { core = Hand } in
    let is : c.exchange.new.seat.me.0 ≡ w =
    ap (λ m. m.0) now ∙ (ap (λ m. m.0) t.1 ∙ ap (λ (z : View Code). let y : View Code = record z { core = Hand } in y) v) in
    let carries : c.exchange.new.seat.me.1 ≡ (0, Core c.args.put) ∷ [] =
    ap (λ m. m.1) now ∙ ap (λ z. (0, Core c.args.put) ∷ z) (ap (λ m. rest m.1) t.1) in (
      search rules,
      search rules,
      puts_core_on _ _ _ _ _ c.exchange.new.seat.me c.args.put carries (subst HasTurn (sym is) c.requires.turn)
          (subst (λ (z : View Code).
          IfSome c.args.put (λ h. Fits (codes g.row.H-Entry.coded.code (g.H.Named.entries h)) (g.H.Named.authors h) (g.H.Named.marks h)
          (IsSoundSince g.H.Named.sound g.H.Named.origin c.args.board.now.table.shared.key.home.value h) z)) (sym is) c.requires.fits),
    )
