use Rattle.std.proofs.Common.{◌≡◌, length, sym, subst, arith, eqb}
use Rattle.std.specs.Prelude.{filter}
use Rattle.fb_values.specs.declared.facts.Datom.{Datom}
use Rattle.fb_values.specs.declared.indexes.Probe.{Probe}
use Rattle.view_model.specs.Scan.{leading, IsScan}
use Rattle.fb_db.specs.Seen.{window_of}
use Rattle.fb_pull.specs.Near.{lent}
use Rattle.fb_pull.proofs.Entities.{scan_entity, few_are_all, lent_length}
use Rattle.fb_pull.proofs.near.at_hand.Goals as goal

pub returns-then-len-lt-FEW : goal.returns-then-len-lt-FEW
returns-then-len-lt-FEW g c = λ facts sees.
    let Selects = g.S.Selector.selects c.args.db.now.filter in
    let all = filter (λ (d : Datom). eqb d.e c.args.e) facts.seen in
    let ds = c.in_ok-datoms.datoms.items in
    let count : c.len.result ≡ length ds = omega arith in
    few_are_all 32 (lent ds) all
    (c.in_ok-datoms.ensures all
    (subst (λ (p : Probe). IsScan c.args.db.now.snapshot.entries (window_of c.args.db.now) Selects p.order (leading p) all)
    (sym c.probe_of.ensures) (scan_entity c.args.db.now Selects facts sees c.args.e)))
    (omega (arith, c.if-len-lt-FEW.true, count, lent_length ds))
