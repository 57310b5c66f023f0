use Rattle.std.proofs.Common.{sym, subst}
use Rattle.std.specs.Prelude.{IsTrue}
use Rattle.std.specs.List.{All}
use Rattle.fb_values.specs.declared.indexes.Order.{Order}
use Rattle.fb_values.specs.Rising.{IsRising}
use Rattle.live_index.specs.Growth.{is_held}
use Rattle.seg_merge.proofs.Attributes.{all_of_one, held_of_one}
use Rattle.seg_merge.proofs.leaf.are_held.Goals as goal

pub returns-in-Avet-Some-Some-clause-held : goal.returns-in-Avet-Some-Some-clause-held
returns-in-Avet-Some-Some-clause-held c held =
    let w = c.in-Avet-Some-Some in
    let ds = c.args.datoms.now in
    let coverage = c.args.covers.now in
    let one =
    all_of_one ds w.first.now w.last.now (subst (λ (o : Order). IsRising o ds) w.is-0 c.requires) (sym w.ensures.value)
    (sym w.ensures'.value) c.if-first-last.true in
    subst (λ (o : Order). All (λ d. IsTrue (is_held coverage o d)) ds) (sym w.is-0)
    (held_of_one coverage ds w.first.now.a one (subst IsTrue c.holds.ensures held))
