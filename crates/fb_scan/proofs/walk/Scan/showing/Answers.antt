use Rattle.std.proofs.Common.{refl}
use Rattle.std.specs.Option.{option_copied}
use Rattle.fb_db.specs.Seen.{window_of}
use Rattle.fb_scan.specs.Steps.{showing}
use Rattle.fb_scan.proofs.Stepping.{going_first}
use Rattle.fb_scan.proofs.walk.Scan.showing.Goals as goal

pub returns : goal.returns
returns g c = record {
  db_is = refl;
  order_is = refl;
  end_is = refl;
  inside = c.requires;
  knows = c.at.ensures;
  going =
      going_first c.args.db.now.snapshot c.args.from.now (window_of (showing c.args.history c.args.db.now)) c.args.end
      (g.S.Selector.selects c.args.db.now.filter) c.sides-sides.result c.sides-sides.ensures (option_copied c.last_read.result)
      c.walk.result c.last_read.ensures c.walk.ensures;
}
