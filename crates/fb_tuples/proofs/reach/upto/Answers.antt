-- The range has what is below the greatest value, and behind it are the datoms with that value.
use Rattle.std.proofs.Common.{◌≡◌, ◌∙◌, ◌++◌, List, ap, sym, subst, Some}
use Rattle.std.specs.Borrow.{Bor}
use Rattle.std.proofs.lemmas.List.{map-append}
use Rattle.fb_values.specs.declared.facts.Datom.{Datom}
use Rattle.fb_values.specs.declared.facts.Value.{Value}
use Rattle.fb_values.specs.declared.indexes.Order.TheVariants.{Avet}
use Rattle.view_model.specs.Scan.{IsScan, between}
use Rattle.fb_db.specs.Seen.{window_of}
use Rattle.fb_tuples.specs.Lent.{datoms_lent}
use Rattle.fb_tuples.specs.Reached.{HasReached}
use Rattle.fb_tuples.proofs.MemberScans.{reached_upto}
use Rattle.fb_tuples.proofs.reach.upto.Goals as goal

pub returns : goal.returns
returns g c =
    let db = c.args.db.now in
    let h = db.snapshot.entries in
    let w = window_of db in
    let selects = g.S.Selector.selects db.filter in
    let xs = c.in_ok-found.found.items in
    let ys = c.in_ok-last.last.items in
    let least = c.args.least.now in
    let greatest = c.args.greatest.now in
    let is : datoms_lent c.extend_from_slice.new.self.items ≡ datoms_lent xs ++ datoms_lent ys =
    ap datoms_lent (c.in_ok-extend_from_slice.ensures.items ∙ ap (λ (l : List (Bor Datom)). xs ++ l) c.deref.ensures.value)
    ∙ map-append (λ (d : Bor Datom). d.now) xs ys in
    let below = subst (λ (v : Value). IsScan h w selects Avet (between c.args.a (Some v) (Some greatest)) (datoms_lent xs)) c.in_ok-start.ensures
    (subst (λ (v : Value). IsScan h w selects Avet (between c.args.a (Some c.in_ok-start.start) (Some v)) (datoms_lent xs)) c.in_ok-end.ensures
    c.in_ok-found.ensures) in
    subst (HasReached h w selects c.args.a least (Some greatest)) (sym is)
    (reached_upto h w selects c.args.a least greatest (datoms_lent xs) (datoms_lent ys) c.requires below c.in_ok-last.ensures)
