use Rattle.std.proofs.Common.{rules, ◌<◌, ap, sym, subst}
use Rattle.board_rule.proofs.Turns.{looks_on}
use Rattle.board_rule.proofs.steps.look.Goals as goal

pub load-served-requires : goal.load-served-requires
load-served-requires g c = let v = ap (λ m. m.0) c.open-opened.ensures.2 in
    (search rules, search rules, looks_on _ _ _ _ _ c.open-opened.result.me (subst (λ z. 0 < z.seats) (sym v) c.args.seat.now.live))
