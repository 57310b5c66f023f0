use Rattle.std.proofs.Common.{Some, None}
use Rattle.fb_db.specs.Seen.{window_of}
use Rattle.fb_names.proofs.Holding.{holder_of_first}
use Rattle.fb_names.proofs.names.holder.Goals as goal

pub returns-in-Some : goal.returns-in-Some
returns-in-Some g c =
    holder_of_first c.args.db.now.snapshot.entries (window_of c.args.db.now) (g.S.Selector.selects c.args.db.now.filter) c.args.a
    c.args.v c.requires (Some c.in-Some.d.now) c.in-Some.ensures

pub returns : goal.returns
returns g c =
    holder_of_first c.args.db.now.snapshot.entries (window_of c.args.db.now) (g.S.Selector.selects c.args.db.now.filter) c.args.a
    c.args.v c.requires None c.in-None.ensures
