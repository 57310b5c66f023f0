use Rattle.fb_db.specs.Seen.{window_of}
use Rattle.fb_scan.specs.Steps.{showing}
use Rattle.fb_scan.proofs.Stepping.{read_of}
use Rattle.fb_scan.proofs.walk.sides.Goals as goal

pub returns : goal.returns
returns g c =
    read_of c.args.db.now.snapshot (window_of (showing c.args.history c.args.db.now)) c.args.order c.extent_of.result c.sides.result c.extent_of.ensures
    c.sides.ensures.extent c.sides.ensures.order c.sides.ensures.tree c.sides.ensures.live c.sides.ensures.beside c.sides.ensures.stands
