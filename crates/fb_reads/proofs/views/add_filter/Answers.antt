use Rattle.std.proofs.Common.{sym, ◌∙◌}
use Rattle.fb_model.specs.History.{basis}
use Rattle.fb_reads.proofs.Naming.{unnamed, named_done, named_more}
use Rattle.fb_reads.proofs.views.add_filter.Goals as goal

pub returns-in_default-clause-line : goal.returns-in_default-clause-line
returns-in_default-clause-line g c =
    let view = c.args.view.now in
    unnamed c.refuse.result (g.T.FilterTable.place_of view.filter.table.now c.args.name.now)
    (basis view.snapshot.entries) c.basis-basis.result c.no_filter.result c.refuse.new.line.items
    (sym c.place.ensures.place ∙ c.in_default.is) c.basis-basis.ensures.basis c.no_filter.ensures c.refuse.ensures

pub returns-clause-names : goal.returns-clause-names
returns-clause-names g c =
    let view = c.args.view.now in
    named_more c.add.result (g.T.FilterTable.place_of view.filter.table.now)
    (g.T.FilterTable.name_at view.filter.table.now) c.in-Some.place c.args.name.now
    view.filter.places.items c.add.new.self.places.items
    (sym c.in-Some.ensures.place) c.in-Some.ensures.name view.filter.are_found c.add.ensures.added

pub returns-clause-line : goal.returns-clause-line
returns-clause-line g c =
    let view = c.args.view.now in
    named_done c.add.result (g.T.FilterTable.place_of view.filter.table.now c.args.name.now) c.in-Some.place
    (basis view.snapshot.entries) c.basis-basis.result c.write_done.new.line.items
    (sym c.in-Some.ensures.place) c.basis-basis.ensures.basis c.in_ok-write_done.ensures
