use Rattle.test_conn.specs.Seated.{AreSessions}
use Rattle.test_conn.proofs.runs.ask_all.Given as goal

abbrev pub invariant-loop-turn : goal.invariant-loop-turn
invariant-loop-turn g l = AreSessions l.conn l.seats.items
