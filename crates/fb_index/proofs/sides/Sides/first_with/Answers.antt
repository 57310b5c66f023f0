use Rattle.std.proofs.Common.{◌∙◌, ap, sym}
use Rattle.std.specs.Prelude.{find}
use Rattle.std.specs.Option.{option_map}
use Rattle.fb_values.specs.declared.facts.Datom.{Datom}
use Rattle.fb_model.specs.Facts.{value_eq}
use Rattle.seg_tree.specs.Nodes.{tree_datoms}
use Rattle.fb_index.specs.Sides.{whole}
use Rattle.fb_index.proofs.Merging.{upto_from}
use Rattle.fb_index.proofs.Walking.{finds_first, finds_none}
use Rattle.fb_index.proofs.sides.Sides.first_with.Goals as goal

pub loop-datom-init : goal.loop-datom-init
loop-datom-init c =
    let self = c.args.self.now in
    ap (find (λ (d : Datom). value_eq d.v c.args.v.now))
    (c.walk-walk.ensures ∙ upto_from c.args.probe.now (whole self.extent self.order (tree_datoms self.tree.now) self.live.now))

pub returns-then-eq : goal.returns-then-eq
returns-then-eq c =
    let p = λ (d : Datom). value_eq d.v c.args.v.now in
    ap (option_map (λ (d : Datom). d.e))
    (sym (finds_first p c.loop-datom.walk c.in-Some.datom.now c.in-Some.ensures (sym c.eq.ensures ∙ c.if-eq.true)) ∙ c.loop-datom.invariant)

pub returns : goal.returns
returns c =
    let p = λ (d : Datom). value_eq d.v c.args.v.now in
    ap (option_map (λ (d : Datom). d.e)) (sym (finds_none p c.loop-datom.walk c.in_default.ensures) ∙ c.loop-datom.invariant)
