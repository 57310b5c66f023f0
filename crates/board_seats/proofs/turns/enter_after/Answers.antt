use Rattle.board_rule.specs.Calls.{view_of}
use Rattle.board_seats.proofs.Learned.{learns}
use Rattle.board_seats.proofs.turns.enter_after.Goals as goal

pub returns-clause-learns : goal.returns-clause-learns
returns-clause-learns g c = λ last sees.
    let home = c.turn.result.home in
    learns g.row.H-Entry.coded g.H.Named.follows (view_of c.args.seat.now) (view_of c.draw.new.seat) c.draw.ensures.drew.0 last
    (g.H.Named.entries home) (g.H.Named.authors home)
    (g.H.Named.marks home) c.draw.ensures.drew.1 c.turn.ensures.learned c.turn.ensures.lawful sees
