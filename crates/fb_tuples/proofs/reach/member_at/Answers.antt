-- The first datom has the least value.
use Rattle.std.proofs.Common.{◌≡◌, ◌∙◌, List, ap, sym, subst}
use Rattle.std.specs.Borrow.{Bor}
use Rattle.fb_values.specs.declared.facts.Datom.{Datom}
use Rattle.fb_values.specs.declared.indexes.Order.TheVariants.{Eavt}
use Rattle.view_model.specs.Window.{Window, without_history}
use Rattle.view_model.specs.Scan.{IsScan, leading}
use Rattle.fb_db.specs.Seen.{window_of}
use Rattle.tuple_model.specs.Seen.{IsMember}
use Rattle.fb_tuples.specs.Lent.{datoms_lent}
use Rattle.fb_tuples.specs.Reached.{about, first_value}
use Rattle.fb_tuples.proofs.MemberScans.{member_scanned}
use Rattle.fb_tuples.proofs.reach.member_at.Goals as goal

pub returns : goal.returns
returns g c =
    let db = c.args.db.now in
    let selects = g.S.Selector.selects db.filter in
    let w = window_of db in
    let plain : w ≡ without_history w = λ i. record { from = db.from; to = db.to; history = c.requires i } in
    let ds = datoms_lent c.in_ok-found.found.items in
    subst (IsMember db.snapshot.entries w selects c.args.e c.args.a)
    (sym (c.first_value.ensures ∙ ap (λ (l : List (Bor Datom)). first_value (datoms_lent l)) c.deref.ensures.value))
    (member_scanned db.snapshot.entries w selects c.args.e c.args.a ds
    (subst (λ (v : Window). IsScan db.snapshot.entries v selects Eavt (leading (about c.args.e c.args.a)) ds) plain c.in_ok-found.ensures))
