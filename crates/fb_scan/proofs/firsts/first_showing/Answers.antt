use Rattle.std.proofs.Common.{[]}
use Rattle.fb_db.specs.Seen.{window_of}
use Rattle.fb_scan.specs.Steps.{showing}
use Rattle.fb_scan.proofs.FirstRow.{none_is, first_is}
use Rattle.fb_scan.proofs.firsts.first_showing.Goals as goal

pub returns-in-None : goal.returns-in-None
returns-in-None g c =
    let seen = showing c.args.history c.args.db.now in
    none_is seen.snapshot.entries (window_of seen) (g.S.Selector.selects c.args.db.now.filter) c.args.probe
    (c.in-None.ensures.next seen c.args.probe.now _ [] c.showing-scan.ensures)

pub returns-in-Some : goal.returns-in-Some
returns-in-Some g c =
    let seen = showing c.args.history c.args.db.now in
    let has = c.in-Some.ensures.next seen c.args.probe.now _ [] c.showing-scan.ensures in
    first_is seen.snapshot.entries (window_of seen) (g.S.Selector.selects c.args.db.now.filter) c.args.probe _ c.in-Some.datom.now _
    has.going
