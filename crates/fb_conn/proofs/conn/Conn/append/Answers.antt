use Rattle.std.proofs.Common.{◌≡◌, ◌∙◌, ap, sym, subst}
use Rattle.fb_core.specs.Cores.{CoreStands}
use Rattle.board_rule.specs.Calls.{view_of}
use Rattle.board_seats.specs.Turning.{left_seen}
use Rattle.fb_conn.specs.declared.home.Kept.{Kept}
use Rattle.fb_conn.specs.Homes.{code_of}
use Rattle.fb_conn.specs.Turns.{stopped_at, IsLogFaultOf}
use Rattle.fb_conn.proofs.conn.Conn.append.Goals as goal

pub stop-requires-clause-stands : goal.stop-requires-clause-stands
stop-requires-clause-stands g c = subst (λ (k : Kept _). CoreStands k.core) (sym c.add.ensures.rest) c.snapshot-latest.ensures.stands

pub returns-clause-stopped : goal.returns-clause-stopped
returns-clause-stopped g c =
    let same = c.add.ensures.rest in
    let v = view_of c.args.seat.now.board in let draft = c.args.draft in (
      c.stop.ensures.last ∙ ap (λ (k : Kept _). k.core.snapshot) same,
      subst (λ (k : Kept _). IsLogFaultOf k.core.snapshot draft c.stop.result) same c.stop.ensures.fault,
      subst
          (λ (k : Kept _). view_of c.stop.new.seat.board ≡ left_seen code_of v k.core.snapshot.entries (stopped_at v.number draft))
          same c.stop.ensures.view,
    )
