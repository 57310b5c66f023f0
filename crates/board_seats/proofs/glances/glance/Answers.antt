use Rattle.board_rule.specs.Calls.{view_of}
use Rattle.board_seats.proofs.Found.{finds}
use Rattle.board_seats.proofs.glances.glance.Goals as goal

pub returns-in-Ok-Fresh-clause-finds : goal.returns-in-Ok-Fresh-clause-finds
returns-in-Ok-Fresh-clause-finds g c = λ last sees.
    let t = rw c.in-Ok-Fresh.field-0-is at c.in-Ok-Fresh.ensures.peeks in
    finds g.row.H-Entry.coded (view_of c.args.seat.now) (view_of c.peek.new.seat) last
    (g.S.Named.entries c.in-Ok-Fresh.snapshot) t.0 t.1 t.2 sees
