use denote.Ref.{Bor}
use Rattle.std.proofs.Common.{◌∙◌, List, ap, subst}
use Rattle.std.specs.Prelude.{filter}
use Rattle.std.specs.List.{slice_get}
use Rattle.std.specs.Option.{option_copied}
use Rattle.fb_values.specs.declared.facts.Datom.{Datom}
use Rattle.fb_values.specs.declared.indexes.Order.TheVariants.{Eavt}
use Rattle.fb_values.specs.declared.indexes.Probe.{Probe}
use Rattle.fb_model.specs.Schema.{is_about}
use Rattle.view_model.specs.Scan.{leading}
use Rattle.fb_db.specs.Seen.{window_of}
use Rattle.fb_scan.specs.Firsts.{IsFirst}
use Rattle.fb_scan.proofs.FirstRow.{first_of_rows}
use Rattle.fb_pull.specs.Near.{lent}
use Rattle.fb_pull.proofs.Entities.{has, under_attribute}
use Rattle.fb_pull.proofs.Scans.{under, scan_under}
use Rattle.fb_pull.proofs.facts.first_under.Goals as goal

pub returns-in-Few : goal.returns-in-Few
returns-in-Few g c = λ facts sees.
    c.first_among.ensures
    ∙ ap (λ (l : List (Bor Datom)). slice_get (filter (has c.args.a) (lent l)) 0) c.deref.ensures.value
    ∙ ap (λ (l : List Datom). slice_get l 0) (under_attribute c.args.db.now (g.S.Selector.selects c.args.db.now.filter)
    c.args.e c.args.near.now c.in-Few.datoms c.in-Few.is c.requires facts sees c.args.a)

pub returns-in-Nothing : goal.returns-in-Nothing
returns-in-Nothing g c = λ facts sees.
    let db = c.args.db.now in
    let Selects = g.S.Selector.selects db.filter in
    let first = option_copied c.first_row.result in
    first_of_rows db.snapshot.entries (window_of db) Selects Eavt (leading (under c.args.e c.args.a)) first
    (filter (is_about c.args.e c.args.a) facts.seen)
    (subst (λ (p : Probe). IsFirst db.snapshot.entries (window_of db) Selects p.order (leading p) first) c.probe_under.ensures
    c.first_row.ensures)
    (scan_under db Selects facts sees c.args.e c.args.a)
